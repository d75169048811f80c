-- Demand 3, proved. Assumes nothing.
use Prim.Native.Nat.{ℕ, zero, suc, ◌+◌, ◌≤◌, ◌<◌}
use mathlib.Core.Path.{◌≡◌, refl, ap, ap₂, sym, ◌∙◌}
use mathlib.Core.Logic.{inl}
use mathlib.Core.List.{List, [], ◌∷◌, map, map-map}
use native.Mathlib.Nat.{div-add-mod', mod-lt}
use native.Mathlib.Omega.{arith}
use lib.Dec.{eqb}
use lib.ListN.{length, get_or, replicate}
use borrow.Author.Tests.{le-ltb}
use Rattle.rules.specs.declared.Row.{Row}
use Rattle.rules.specs.Sums.{only, over, over_days}
use Rattle.rules.specs.Lists.{All}
use Rattle.rules.specs.Calendar.{april_first, days_in_year}
use Rattle.rules.specs.declared.Form.{Form}
use Rattle.rules.specs.File.{Tariff, Supply, Point, File, decode_in, decode}
use Rattle.rules.specs.Refusal.{file_refusal_in, first_or, refusal_in, refusal}
use Rattle.rules.specs.Good.{GoodIn}
use Rattle.rules.specs.Charges.{charged_from, charged_count, over_charged, Charge, meter_charge, volumetric_charge, drainage_charge, charges}
use Rattle.rules.specs.Settlement.{amount, centipence, supplied_on, statement, point_charge, provider_on, over_providers, provider_charge, provider_at, providers_of, plus, clear_row, row_and, rows}
use Rattle.rules.specs.Report.{report}
use Rattle.rules.specs.Services.{written, room_number, rows_number, rows_answer, rows_after, zero_statement, statement_at, statement_answer, report_number, report_answer, report_after}
use Rattle.rules.specs.Promises.{AcceptedIn, providers_at, Conserved, ChargeNear, AllNear, Summed, RowsAreSums, statements, untraded, Alike, SameStatements, Served, Promised, Demand3}
use Rattle.rules.proofs.Lists.{all, all_all, all_map}
use Rattle.rules.proofs.Shares.{Covers, over_none, days_count, floors_add_up, owns_add_up, floor_near}
use Rattle.rules.proofs.Rows.{added_at}
use Rattle.rules.proofs.Providers.{charged_days, listed}
use Rattle.rules.proofs.Accepted.{accepted as good}
use Rattle.rules.proofs.InForce.{owned}

-- CONSERVATION
module _ (tariff : Tariff) (point : Point) where
  abbrev from : ℕ
  from = charged_from tariff point.supply

  abbrev n : ℕ
  n = charged_count tariff point.supply

  abbrev ps : List ℕ
  ps = providers_at tariff point

  covers : Covers from n (provider_on point) ps
  covers d a b = ((listed tariff (point ∷ [])).exactly (provider_on point d)).1 (inl (d, (charged_days tariff point.supply d).1 (a, b), refl))

  -- what each provider has of a weight adds up to the weight of all charged days
  weights : (w : ℕ → ℕ) → over ps (λ p. over_providers tariff point (λ q. eqb q p) w) ≡ over_charged tariff point.supply w
  unfolding over_providers over_charged
  weights w = owns_add_up from n (provider_on point) w ps (listed tariff (point ∷ [])).ascend covers

  each_charge : (cs : List Charge) (i : ℕ) →
      over ps (λ p. amount (map (provider_charge tariff point p) cs) i) ≡ amount (map (point_charge tariff point.supply) cs) i
  unfolding provider_charge point_charge over_providers over_charged
  each_charge [] i = over_none ps
  each_charge (c ∷ cs) zero = floors_add_up from n (provider_on point) c.weight c.divisor ps (listed tariff (point ∷ [])).ascend covers
  each_charge (c ∷ cs) (suc i) = each_charge cs i

  pub conserved : Conserved tariff point
  unfolding provider_at statement over_charged
  conserved =
      record {
        providers = listed tariff (point ∷ []);
        days = weights (λ d. 1) ∙ days_count from n;
        litres = weights (supplied_on point.supply);
        charges = each_charge (charges tariff point.supply);
      }

  -- NEARNESS
  pub near : (charge : Charge) → 0 < charge.divisor → ChargeNear tariff point charge
  unfolding provider_charge point_charge over_providers over_charged
  near charge h =
      record {
        providers = λ p.
            let between = floor_near from n (provider_on point) charge.weight charge.divisor p h in
            record { exact = h; above = between.0; below = between.1 };
        whole =
            let sum = over_days from n charge.weight in
            let whole = div-add-mod' sum charge.divisor in
            let less = mod-lt sum h in
            record { exact = h; above = omega (arith, whole); below = omega (arith, whole, less) };
      }

-- every divisor is above 0 from the year 2000 on
divisors : (tariff : Tariff) (supply : Supply) → 2000 ≤ tariff.year → All (λ charge. 0 < charge.divisor) (charges tariff supply)
unfolding charges meter_charge volumetric_charge drainage_charge days_in_year april_first
divisors tariff supply h = omega arith

pub all_near : (tariff : Tariff) (point : Point) → 2000 ≤ tariff.year → AllNear tariff point
all_near tariff point h = all_all (near tariff point) (charges tariff point.supply) (divisors tariff point.supply h)

-- ROWS
-- cleared charges
nothing : (n i : ℕ) → amount (replicate n (centipence 0)) i ≡ 0
nothing zero i = refl
nothing (suc n) zero = refl
nothing (suc n) (suc i) = nothing n i

-- what `plus` adds up, a row has summed over the points
row_sum : (tariff : Tariff) (m : Row → ℕ) → ((a b : Row) → m (plus a b) ≡ m a + m b) → (points : List Point) (row : Row) →
    m (row_and tariff row points) ≡ m row + over points (λ point. m (provider_at tariff point row.provider))
unfolding row_and over plus
row_sum tariff m add [] row = omega arith
row_sum tariff m add (point ∷ points) row =
    let here = provider_at tariff point row.provider in
    omega (arith, row_sum tariff m add points (plus row here), add row here)

pub row_provider : (tariff : Tariff) (points : List Point) (row : Row) → (row_and tariff row points).provider ≡ row.provider
unfolding row_and plus
row_provider tariff [] row = refl
row_provider tariff (point ∷ points) row = row_provider tariff points (plus row (provider_at tariff point row.provider))

module _ (file : File) where
  abbrev row_of : ℕ → Row
  row_of p = row_and file.tariff (clear_row p) file.points

  from_clear : (p : ℕ) (m : Row → ℕ) → ((a b : Row) → m (plus a b) ≡ m a + m b) → m (clear_row p) ≡ 0 →
      m (row_of p) ≡ over file.points (λ point. m (provider_at file.tariff point (row_of p).provider))
  from_clear p m add z =
      omega (arith, row_sum file.tariff m add file.points (clear_row p), ap (λ q. over file.points (λ point. m (provider_at file.tariff point q))) (row_provider file.tariff file.points (clear_row p)))

  summed : (p : ℕ) → Summed file (row_of p)
  unfolding plus clear_row
  summed p =
      record {
        days = from_clear p (λ row. row.days.0) (λ a b. refl) refl;
        litres = from_clear p (λ row. row.litres.0) (λ a b. refl) refl;
        charges = λ i. from_clear p (λ row. amount row.charges i) (λ a b. added_at a.charges b.charges i) (nothing 4 i);
      }

  providers_of_rows : (ps : List ℕ) → map (λ row. row.provider) (map row_of ps) ≡ ps
  unfolding clear_row
  providers_of_rows [] = refl
  providers_of_rows (p ∷ ps) = ap₂ ◌∷◌ (row_provider file.tariff file.points (clear_row p)) (providers_of_rows ps)

  pub rows_are_sums : RowsAreSums file
  unfolding rows
  rows_are_sums =
      record {
        providers = rw (providers_of_rows (providers_of file.tariff file.points)) (listed file.tariff file.points);
        sums = all_map (Summed file) row_of summed (providers_of file.tariff file.points);
      }

-- STATEMENTS
-- an accepted file's answer
pub answered : (file : List ℕ) → refusal file ≡ 0 → (place : ℕ) →
    statement_answer file place ≡ statement_at (decode file).tariff (map (λ point. point.supply) (decode file).points) place
unfolding statement_answer
answered file h place = rw (h, statement_answer)

-- what the statements are made from stays where the transfers go
abbrev supplies : File → List Supply
supplies file = map (λ point. point.supply) file.points

untraded_supplies : (file : File) → supplies (untraded file) ≡ supplies file
untraded_supplies file = map-map (λ point. point.supply) _ file.points

same_supplies : (a b : File) → Alike a b → supplies a ≡ supplies b
same_supplies a b alike = sym (untraded_supplies a) ∙ (ap supplies alike ∙ untraded_supplies b)

same_tariff : (a b : File) → Alike a b → a.tariff ≡ b.tariff
same_tariff a b alike = ap (λ (f : File). f.tariff) alike

of_supplies : (file : File) → map (statement file.tariff) (supplies file) ≡ statements file
of_supplies file = map-map (statement file.tariff) (λ point. point.supply) file.points

same : (a b : File) → Alike a b → statements a ≡ statements b
same a b alike = sym (of_supplies a) ∙ (ap₂ (λ t s. map (statement t) s) (same_tariff a b alike) (same_supplies a b alike) ∙ of_supplies b)

-- a refused file's answer
pub refused : (file : List ℕ) (place n : ℕ) → refusal file ≡ n → (n ≡ 0 → ⊥) → statement_answer file place ≡ record { number = n; statement = zero_statement }
unfolding statement_answer
refused file place zero e h = absurd (h refl)
refused file place (suc n) e h = rw (e, statement_answer)

pub same_statements : SameStatements
same_statements a b ha hb alike place =
    let tariff = same_tariff (decode a) (decode b) alike in
    let supplied = same_supplies (decode a) (decode b) alike in
    answered a ha place ∙ (ap₂ (λ t s. statement_at t s place) tariff supplied ∙ sym (answered b hb place))

-- SERVICES
-- what is accepted is refused by nothing that has room for it
room_enough : (n room wanted : ℕ) → n ≡ 0 → wanted ≤ room → first_or (n ∷ []) (room_number room wanted) ≡ 0
unfolding room_number first_or
room_enough n room wanted h fits = simp (h, le-ltb room wanted fits)

at_place : (tariff : Tariff) (points : List Point) (place : ℕ) → place < length points →
    statement_at tariff (map (λ point. point.supply) points) place
    ≡ record { number = 0; statement = get_or (map (λ point. statement tariff point.supply) points) place zero_statement }
unfolding statement_at
at_place tariff [] place h = absurd (omega arith)
at_place tariff (point ∷ points) zero h = refl
at_place tariff (point ∷ points) (suc place) h = at_place tariff points place (omega arith)

pub served : (bytes : List ℕ) → refusal bytes ≡ 0 → Served bytes
unfolding rows_number rows_answer rows_after report_number report_answer report_after written only first_or
served bytes h =
    record {
      rows = λ table fits. let none = room_enough (refusal bytes) (length table) (length (rows (decode bytes))) h fits in (simp none, simp none);
      statements = λ place k. answered bytes h place ∙ at_place (decode bytes).tariff (decode bytes).points place k;
      report = λ space fits. let none = room_enough (refusal bytes) (length space) (length (report (decode bytes))) h fits in (simp none, simp none);
    }

-- ACCEPTED FILES
-- where there is no number, there was none before
first_none : (n : ℕ) (last : ℕ) → first_or (n ∷ []) last ≡ 0 → n ≡ 0
unfolding first_or
first_none zero last h = refl
first_none (suc n) last h = h

pub accepted_file : (form : Form) (bytes : List ℕ) → AcceptedIn form bytes → file_refusal_in form bytes ≡ 0
unfolding refusal_in
accepted_file form bytes h = first_none (file_refusal_in form bytes) _ h

pub accepted_good : (form : Form) (bytes : List ℕ) → AcceptedIn form bytes → GoodIn form bytes
accepted_good form bytes h = good form bytes (accepted_file form bytes h)

-- NOTHING GAINED OR LOST, whatever the width of the count
pub kept : (form : Form) (bytes : List ℕ) → AcceptedIn form bytes → Promised (decode_in form bytes)
kept form bytes h =
    let file = decode_in form bytes in
    let g = accepted_good form bytes h in
    let year : 2000 ≤ file.tariff.year = omega (arith, g.header.year_from) in
    record {
      owned = all_all (owned file.tariff file.tariff.service) file.points g.points;
      conserved = all (Conserved file.tariff) (conserved file.tariff) file.points;
      near = all (AllNear file.tariff) (λ point. all_near file.tariff point year) file.points;
      rows = rows_are_sums file;
    }

pub demand_3 : Demand3
demand_3 =
    record {
      kept = kept;
      same = λ form a b. same (decode_in form a) (decode_in form b);
      served = served;
      alike = same_statements;
    }
