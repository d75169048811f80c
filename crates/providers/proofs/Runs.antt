-- Dated records that are gone through in the order of the days, transfers and conditions alike: each has the days from its own entry up to the next
-- one's, the last up to the end. Assumes nothing.
use Prim.Native.Nat.{ℕ, zero, suc, ◌+◌, ◌-◌, ◌^◌, ◌≤◌, ◌<◌, min, zero-le}
use mathlib.Core.Path.{◌≡◌, refl, sym, ap, ◌∙◌, subst}
use mathlib.Core.Bool.{cond}
use mathlib.Core.Logic.{⊎_elim}
use mathlib.Core.List.{List, [], ◌∷◌, map}
use native.Mathlib.Nat.{eq-zero-or-pos}
use native.Mathlib.Omega.{arith}
use borrow.Author.Tests.{eq-eqb, ne_eqb}
use lib.Dec.{eqb}
use Rattle.rules.specs.declared.Transfer.{Transfer}
use Rattle.rules.specs.Lists.{Ascending, latest}
use Rattle.rules.specs.Settlement.{provider_on}
use Rattle.rules.specs.File.{Point, records, transfer_at, after_transfer, transfers}
use Rattle.rules.specs.Good.{FirstBy}
use Rattle.rules.proofs.Lists.{ascending_lower, latest_here, latest_ahead}
use Rattle.rules.proofs.Positions.{forward}
use Rattle.records.proofs.Ahead.{read_one, read_past}
use Rattle.charged.specs.Charged.{first_entry}
use Rattle.providers.specs.Runs.{SoundTransfers, Walk, Reading}

-- the entry of the first of some dated records is one of n days, or n
pub first_within : {A : Type 0} (day : A → ℕ) (n start : ℕ) (xs : List A) → first_entry day n start xs ≤ n
unfolding first_entry
first_within day n start [] = omega arith
first_within day n start (x ∷ xs) = omega arith

-- of records of a file, by the one that is read and how many are left with it
module _ {A : Type 0} (here : ℕ → A) (next : ℕ → A → ℕ) (day : A → ℕ) (start n : ℕ) where
  pub none_left : (left at : ℕ) → left ≡ 0 → n ≡ first_entry day n start (records here next left at)
  unfolding records first_entry
  none_left left at z = ap (λ k. first_entry day n start (records here next k at)) (sym z)

  one_left : (left at : ℕ) {x : A} → 0 < left → x ≡ here at → min (day x - start) n ≡ first_entry day n start (records here next left at)
  unfolding first_entry
  one_left left at h e = sym (ap (first_entry day n start) (read_one here next left at h (e, refl)))

  pub end_is : (left at : ℕ) {x : A} {d end : ℕ} → x ≡ here at → d ≡ day x → end ≡ cond (eqb left 0) n (min (d - start) n) → end ≡ first_entry day n start (records here next left at)
  end_is left at {x} e f g =
      let k = g ∙ ap (λ d. cond (eqb left 0) n (min (d - start) n)) f in
      ⊎_elim (λ z. k ∙ (ap (λ b. cond b n (min (day x - start) n)) (eq-eqb left 0 z) ∙ none_left left at z))
      (λ h. k ∙ (ap (λ b. cond b n (min (day x - start) n)) (ne_eqb left 0 (λ z. absurd (omega arith))) ∙ one_left left at h e))
      (eq-zero-or-pos left)

module _ {A B : Type 0} (day : A → ℕ) (value : A → B) (start n : ℕ) where
  -- a later record's entry is no earlier
  walk_forward : (x : A) (xs : List A) → Ascending 0 (map day (x ∷ xs)) → first_entry day n start (x ∷ xs) ≤ first_entry day n start xs
  unfolding first_entry
  walk_forward x [] up = omega arith
  walk_forward x (y ∷ xs) up = omega (arith, up.1.0)

  module _ {all : ℕ → B} {i : ℕ} {now : B} where
    -- the days before the next record's entry have what is in force
    walk_under : {end : ℕ} (ahead : List A) → Walk day value start n all i now ahead end → (j : ℕ) → i ≤ j → j < end → all j ≡ now
    unfolding latest first_entry
    walk_under [] w j a b = w.same j a (omega (arith, w.ends))
    walk_under (x ∷ xs) w j a b = w.same j a (omega (arith, w.ends)) ∙ latest_ahead day (start + j) value now 0 x xs w.ascend (omega (arith, w.ends))

    -- which comes into force
    walk_next : {end : ℕ} (x : A) (xs : List A) → Walk day value start n all i now (x ∷ xs) end → end ≤ i → {end' : ℕ} → end' ≡ first_entry day n start xs → Walk day value start n all i (value x) xs end'
    unfolding first_entry
    walk_next x xs w h e =
        record {
          ascend = ascending_lower (map day xs) zero-le w.ascend.1;
          same = λ j a b. w.same j a b ∙ latest_here day (start + j) value now x xs (omega (arith, w.ends));
          ends = e;
        }

-- the days of entries `from` .. `to` - 1 have one owner
pub record Run (owner : ℕ → ℕ) (n from to p : ℕ) : Type 0 where
  pub forwards : from ≤ to
  pub within : to ≤ n
  pub same : (i : ℕ) → from ≤ i → i < to → owner i ≡ p

-- RECORDS OF A FILE
module _ {A B : Type 0} {here : ℕ → A} {next : ℕ → A → ℕ} {day : A → ℕ} {value : A → B} {start n : ℕ} where
  module _ {all : ℕ → B} {i : ℕ} {now : B} {x : A} {past left end : ℕ} (u : Reading here next day value start n all i now x past left end) where
    pub reading_within : end ≤ n
    reading_within = omega (arith, u.walk.ends, first_within day n start (records here next left u.at))

    pub reading_under : (j : ℕ) → i ≤ j → j < end → all j ≡ now
    reading_under = walk_under day value start n (records here next left u.at) u.walk

    pub reading_later : {k : ℕ} → i ≤ k → Reading here next day value start n all k now x past left end
    reading_later h =
        record {
          at = u.at;
          read = u.read;
          within = u.within;
          walk = record { ascend = u.walk.ascend; same = λ j a b. u.walk.same j (omega arith) b; ends = u.walk.ends };
        }

    -- where none is left, no day is
    pub reading_end : left ≤ 0 → end ≡ n
    reading_end h = u.walk.ends ∙ sym (none_left here next day start n left u.at (omega arith))

    pub reading_small : ((at : ℕ) (x : A) → at ≤ next at x) → 0 < left → past < 2 ^ 32
    reading_small step h = omega (arith, u.within, read_past here next left u.at h u.read, forward step past (records here next (left - 1) past))

    -- the record that is read comes into force, and the one after it is read
    module _ (h : 0 < left) {y : A} {later d end' : ℕ} (read : (y ≡ here past) × (later ≡ next past (here past))) (f : d ≡ day y) (g : end' ≡ cond (eqb (left - 1) 0) n (min (d - start) n)) where
      abbrev behind : List A
      behind = records here next (left - 1) past

      walk_here : Walk day value start n all i now (x ∷ behind) end
      walk_here = subst (λ xs. Walk day value start n all i now xs end) (read_one here next left u.at h u.read) u.walk

      end_next : end' ≡ first_entry day n start behind
      end_next = end_is here next day start n (left - 1) past read.0 f g

      pub reading_next : end ≤ i → Reading here next day value start n all i (value x) y later (left - 1) end'
      reading_next a =
          record {
            at = past;
            read = read;
            within = omega (arith, u.within, read_past here next left u.at h u.read);
            walk = walk_next day value start n x behind walk_here a end_next;
          }

      pub reading_forward : end ≤ end'
      reading_forward = omega (arith, walk_here.ends, end_next, walk_forward day value start n x behind walk_here.ascend)

-- TRANSFERS: who has the day of entry i, from `start` on
abbrev pub owner_by : List Transfer → ℕ → ℕ → ℕ
owner_by ts start i = latest (λ t. t.day) (λ t. t.provider) 0 ts (start + i)

-- by a point's own transfers
pub point_run : (point : Point) (start : ℕ) {ts : List Transfer} {n from to p : ℕ} → point.transfers ≡ ts → Run (owner_by ts start) n from to p →
    Run (λ i. provider_on point (start + i)) n from to p
unfolding provider_on
point_run point start e run =
    record { forwards = run.forwards; within = run.within; same = λ i a b. ap (λ ts. owner_by ts start i) e ∙ run.same i a b }

some_first : (file : List ℕ) (count at day : ℕ) → FirstBy day (transfers file count at) → 0 < count
unfolding records
some_first file zero at day f = absurd f
some_first file (suc count) at day f = omega arith

pub first_zero : (n start : ℕ) (ts : List Transfer) → FirstBy start ts → first_entry (λ t. t.day) n start ts ≡ 0
unfolding first_entry
first_zero n start [] h = absurd h
first_zero n start (t ∷ ts) h = omega arith

-- at the start no day is done, and the first transfer is read
module _ {file : List ℕ} {count at start : ℕ} (sound : SoundTransfers file count at start) where
  pub some_transfers : 0 < count
  some_transfers = some_first file count at start sound.first

  pub transfers_within : at < 2 ^ 32
  transfers_within = omega (arith, sound.ends, forward {next = λ at t. after_transfer at} (λ at t. omega arith) at (transfers file count at))

  pub reading_first : {B : Type 0} (value : Transfer → B) (none : B) (n : ℕ) {t : Transfer} {past : ℕ} → (t ≡ transfer_at file at) × (past ≡ after_transfer at) →
      Reading (transfer_at file) (λ at t. after_transfer at) (λ t. t.day) value start n (λ i. latest (λ t. t.day) value none (transfers file count at) (start + i)) 0 none t past count 0
  reading_first value none n read =
      record {
        at = at;
        read = read;
        within = sound.ends;
        walk = record { ascend = sound.ascend; same = λ j a b. refl; ends = sym (first_zero n start (transfers file count at) sound.first) };
      }
