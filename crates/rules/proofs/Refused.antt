-- Demand 1, proved. Assumes nothing.
use Prim.Native.Nat.compare
use Prim.Native.Nat.{ℕ, zero, suc, ◌≤◌, ◌<◌}
use mathlib.Core.Path.{◌≡◌, refl, sym, ap, ◌∙◌}
use mathlib.Core.Logic.{◌↔◌}
use mathlib.Core.List.{List, [], ◌∷◌, map}
use mathlib.Core.Bool.{Bool}
use native.Mathlib.Omega.{arith}
use native.Mathlib.Decide.{dec_le}
use lib.ListN.{length, length-map}
use lib.Dec.{leb, eqb}
use borrow.Author.Tests.{leb-true, leb-false, le-leb, lt-leb, ne_eqb}
use Rattle.rules.specs.declared.Row.{Row}
use Rattle.rules.specs.Sums.{only}
use Rattle.rules.specs.Form.{form_at}
use Rattle.rules.specs.File.{Tariff, Supply, decode}
use Rattle.rules.specs.Refusal.{when, first_or, refusal}
use Rattle.rules.specs.Lawful.{Lawful}
use Rattle.rules.specs.Settlement.{rows}
use Rattle.rules.specs.Report.{report}
use Rattle.rules.specs.Services.{written, rows_number, rows_answer, rows_after, zero_statement, statement_at, statement_answer, report_number, report_answer, report_after}
use Rattle.rules.specs.Promises.{RowsNumbered, StatementNumbered, ReportNumbered, Counted, Demand1}
use Rattle.rules.proofs.Lists.{all_all}
use Rattle.rules.proofs.Providers.{listed}
use Rattle.rules.proofs.InForce.{owned}
use Rattle.rules.proofs.Accepted.{sound_good}
use Rattle.rules.proofs.Breaches.{none_says, when_says, breach_says, first_breach, accepted_lawful}
use Rattle.rules.proofs.Kept.{answered, refused}
use Rattle.rules.proofs.Numbers.{room_says, none_free, number_low}
use Rattle.rules.proofs.Sentences.{no_report_under_52}

-- THE SPACE LENT
-- a refused call leaves it as it was
as_it_was : {A : Type 0} (n : ℕ) (answer space : List A) → ¬ (n ≡ 0) → written n answer space ≡ space
unfolding written
as_it_was zero answer space refused = absurd (refused refl)
as_it_was (suc n) answer space refused = refl

none_counted : (n count : ℕ) → ¬ (n ≡ 0) → only (eqb n 0) count ≡ 0
unfolding only
none_counted zero count refused = absurd (refused refl)
none_counted (suc n) count refused = simp (ne_eqb (suc n) 0 refused)

-- ROWS
rows_numbered : (file : List ℕ) (table : List Row) → RowsNumbered file table
unfolding rows_number rows_answer rows_after
rows_numbered file table =
    let wanted = length (rows (decode file)) in
    let says = room_says file (length table) wanted in
    let free = none_free says (omega arith) in
    record {
      first = says;
      free = (λ e. ((free.0 e).0, omega (arith, (free.0 e).1)), λ x. free.1 (x.0, λ short. omega (arith, x.1)));
      refused = λ refused. (none_counted _ wanted refused, as_it_was _ (rows (decode file)) table refused);
    }

-- STATEMENT
-- 15 where the place is not among the points
place_number : (tariff : Tariff) (supplies : List Supply) (place : ℕ) → (statement_at tariff supplies place).number ≡ when (leb (length supplies) place) 15 0
unfolding statement_at
place_number tariff [] place = simp (le-leb 0 place (omega arith))
place_number tariff (supply ∷ supplies) zero = simp (lt-leb (suc (length supplies)) 0 (omega arith))
place_number tariff (supply ∷ supplies) (suc place) = rw compare.suc-suc (place_number tariff supplies place)

place_zero : (tariff : Tariff) (supplies : List Supply) (place : ℕ) → ¬ ((statement_at tariff supplies place).number ≡ 0) → (statement_at tariff supplies place).statement ≡ zero_statement
unfolding statement_at
place_zero tariff [] place refused = refl
place_zero tariff (supply ∷ supplies) zero refused = absurd (refused refl)
place_zero tariff (supply ∷ supplies) (suc place) refused = place_zero tariff supplies place refused

module _ (file : List ℕ) (place : ℕ) where
  abbrev supplies : List Supply
  supplies = map (λ point. point.supply) (decode file).points

  abbrev missing : Bool
  missing = leb (length (decode file).points) place

  statement_number : (statement_answer file place).number ≡ first_or (refusal file ∷ []) (when missing 15 0)
  unfolding first_or
  statement_number = go (refusal file) refl
    where
      go : (n : ℕ) → refusal file ≡ n → (statement_answer file place).number ≡ first_or (n ∷ []) (when missing 15 0)
      go zero e =
          ap (λ a. a.number) (answered file e place)
          ∙ (place_number (decode file).tariff supplies place ∙ ap (λ k. when (leb k place) 15 0) (length-map (decode file).points (λ point. point.supply)))
      go (suc n) e = ap (λ a. a.number) (refused file place (suc n) e (λ z. omega arith))

  statement_zero : ¬ ((statement_answer file place).number ≡ 0) → (statement_answer file place).statement ≡ zero_statement
  statement_zero refuses = go (refusal file) refl
    where
      go : (n : ℕ) → refusal file ≡ n → (statement_answer file place).statement ≡ zero_statement
      go zero e =
          let a = answered file e place in
          ap (λ a. a.statement) a ∙ place_zero (decode file).tariff supplies place (λ z. refuses (ap (λ a. a.number) a ∙ z))
      go (suc n) e = ap (λ a. a.statement) (refused file place (suc n) e (λ z. omega arith))

  statement_numbered : StatementNumbered file place
  statement_numbered =
      let points = length (decode file).points in
      let own = when_says missing 15 0 (leb-true points place) (λ e there. omega (arith, leb-false points place e)) none_says in
      let says = rw (← statement_number) at (breach_says (form_at file) file _ own) in
      let free = none_free says (omega arith) in
      record {
        first = says;
        free = (λ e. ((free.0 e).0, omega (arith, (free.0 e).1)), λ x. free.1 (x.0, λ missing. omega (arith, x.1)));
        refused = statement_zero;
      }

-- REPORT
module _ (file : List ℕ) (room : ℕ) where
  abbrev size : ℕ
  size = length (report (decode file))

  report_free : (report_number file room ≡ 0) ↔ (Lawful file × ¬ (room < size))
  unfolding report_number
  report_free = none_free (room_says file room size) (omega arith)

  -- where there is no number, the answer is the report's length, from 52 on
  report_length : report_number file room ≡ 0 → (report_answer file room ≡ size) × (52 ≤ size)
  unfolding report_answer first_or
  report_length e = (simp e, no_report_under_52 (form_at file) file ((accepted_lawful (form_at file) file).1 (report_free.0 e).0))

  -- and else it is the number, from 1 to 14
  report_number_lem : ¬ (report_number file room ≡ 0) → (report_answer file room ≡ report_number file room) × (1 ≤ report_number file room) × (report_number file room ≤ 14)
  unfolding report_answer first_or
  report_number_lem = go (report_number file room) (number_low file room)
    where
      go : (n : ℕ) → n ≤ 14 → ¬ (n ≡ 0) → (first_or (n ∷ []) size ≡ n) × (1 ≤ n) × (n ≤ 14)
      go zero low refuses = absurd (refuses refl)
      go (suc n) low refuses = (refl, omega arith, low)

  under_52 : report_answer file room < 52 → ¬ (report_number file room ≡ 0)
  under_52 h e = let x = report_length e in omega (arith, x.0, x.1)

  from_52 : 52 ≤ report_answer file room → report_number file room ≡ 0
  from_52 h = go (dec_le (report_number file room) 0)
    where
      go : Dec (report_number file room ≤ 0) → report_number file room ≡ 0
      go (yes none) = omega arith
      go (no refuses) = let x = report_number_lem (λ e. refuses (omega arith)) in absurd (omega (arith, x.0, x.2))

report_numbered : (file space : List ℕ) → ReportNumbered file space
unfolding report_number report_after
report_numbered file space =
    let room = length space in
    let free = report_free file room in
    let says = room_says file room (size file room) in
    record {
      first = λ n. (
        λ x.
            let y = report_number_lem file room (under_52 file room (omega (arith, x.0, x.1))) in
            ((says n).0 (sym y.0 ∙ x.0), omega (arith, x.0, y.0, y.1)),
        λ x.
            let e = (says n).1 x.0 in
            let y = report_number_lem file room (λ none. omega (arith, e, none, x.1)) in
            (y.0 ∙ e, omega (arith, e, y.2)),
      );
      free = (
        λ h. let x = free.0 (from_52 file room h) in (x.0, omega (arith, x.1)),
        λ x. let y = report_length file room (free.1 (x.0, λ short. omega (arith, x.1))) in omega (arith, y.0, y.1),
      );
      refused = λ h. as_it_was _ (report (decode file)) space (under_52 file room h);
    }

-- WHAT 13 COUNTS
counted : (file : List ℕ) → Counted file
counted file =
    let t = (decode file).tariff in
    let ps = (decode file).points in
    record { providers = listed t ps; owned = λ sound. all_all (owned t t.service) ps (sound_good (form_at file) file sound).points }

pub demand_1 : Demand1
demand_1 =
    record {
      lawful = λ file. accepted_lawful (form_at file) file;
      first = λ file. first_breach (form_at file) file;
      counted = counted;
      rows = rows_numbered;
      statement = statement_numbered;
      report = report_numbered;
    }
