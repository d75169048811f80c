-- A point's transfers and its conditions, each as far as they were gone through in the order of the days. Assumes nothing.
use Prim.Native.Nat.{ℕ, ◌+◌, ◌-◌, ◌^◌, ◌≤◌, ◌<◌}
use mathlib.Core.Path.{◌≡◌, refl, sym, ap}
use mathlib.Core.Bool.{Bool, true, false, cond}
use mathlib.Core.Logic.{◌⊎◌, inr, ⊎_elim}
use mathlib.Core.List.{List, [], ◌∷◌}
use native.Mathlib.Nat.{le_refl, eq-zero-or-pos}
use native.Mathlib.Omega.{arith}
use lib.Dec.{leb}
use Rattle.rules.specs.declared.Transfer.{Transfer}
use Rattle.rules.specs.Lists.{latest}
use Rattle.rules.specs.File.{transfer_bits, transfer_at, after_transfer, transfers, condition_bits, condition_at, after_condition, conditions}
use Rattle.rules.specs.Charges.{no_condition}
use Rattle.rules.proofs.Positions.{forward}
use Rattle.records.specs.Conditions.{condition_of}
use Rattle.records.specs.declared.Groups.{Groups}
use Rattle.providers.specs.Runs.{SoundTransfers, Reading}
use Rattle.providers.proofs.Runs.{none_left, end_is, reading_next, reading_small, reading_first, some_transfers}
use Rattle.cuts.specs.declared.InForce.{InForce}
use Rattle.cuts.specs.Cuts.{transfer_in, owner_of, condition_in, SoundConditions, Walked, ReadAhead, Owns, Held}

-- where a day is left that has not come, there is a record
pub reading_some : {A B : Type 0} {here : ℕ → A} {next : ℕ → A → ℕ} {day : A → ℕ} {value : A → B} {start n : ℕ} {all : ℕ → B} {i : ℕ} {now : B} {x : A} {past left end : ℕ} →
    Reading here next day value start n all i now x past left end → end ≤ i → i < n → 0 < left
reading_some {here = here} {next} {day} {start = start} {n} {left = left} u a b =
    ⊎_elim (λ z. absurd (omega (arith, u.walk.ends, none_left here next day start n left u.at z))) (λ h. h) (eq-zero-or-pos left)

-- the record that is ahead comes into force, and the one after it is read
walked_next : {A R : Type 0} {here : ℕ → A} {wide : ℕ} {day : A → ℕ} {seen : R → A} {start n : ℕ} {all : ℕ → A} {i : ℕ} {before : A} {now : R} {at left end : ℕ} {r : InForce R} →
    Reading here (λ at x. at + wide) day (λ x. x) start n all i before (seen now) at left end → 0 < left → end ≤ i → ReadAhead here wide day seen start n now at (left - 1) r →
    Walked here wide day seen start n all i r
walked_next {day = day} u h a k = rw (k.now, k.left) (reading_next u h (k.ahead, k.next) (ap day (sym k.ahead)) k.end a)

-- THE LOOP over the records that have come: it goes by the same records as where it began, and fewer are left once it has gone on
pub record Passed {A R : Type 0} (here : ℕ → A) (wide : ℕ) (day : A → ℕ) (seen : R → A) (start n i : ℕ) (from to : InForce R) : Type 0 where
  pub still : (all : ℕ → A) → Walked here wide day seen start n all i from → Walked here wide day seen start n all i to
  pub fewer : to.left ≤ from.left
  pub gone : (to ≡ from) ⊎ (to.left < from.left)

pub passed_more : {A R : Type 0} {here : ℕ → A} {wide : ℕ} {day : A → ℕ} {seen : R → A} {start n i : ℕ} {from to more : InForce R} → Passed here wide day seen start n i from to →
    0 < to.left → to.end ≤ i → ReadAhead here wide day seen start n to.ahead to.next.at (to.left - 1) more → Passed here wide day seen start n i from more
passed_more u some a k =
    record {
      still = λ all h. walked_next (u.still all h) some a k;
      fewer = omega (arith, u.fewer, k.left);
      gone = inr (omega (arith, u.fewer, k.left));
    }

-- THE FIRST transfer is in force from the first day on
module _ {file : List ℕ} {count at start : ℕ} (n : ℕ) (sound : SoundTransfers file count at start) {t : Transfer} {past : ℕ} (read : (t ≡ transfer_at file at) × (past ≡ after_transfer at)) where
  before_first : Reading (transfer_at file) (λ at t. after_transfer at) (λ t. t.day) (λ t. t) start n (transfer_in file count at start) 0 (record { day = 0; provider = 0 }) t past count 0
  before_first = reading_first sound (λ t. t) (record { day = 0; provider = 0 }) n read

  pub first_small : past < 2 ^ 32
  first_small = reading_small before_first (λ at t. omega arith) (some_transfers sound)

  pub first_owns : {r : InForce Transfer} → ReadAhead (transfer_at file) transfer_bits (λ t. t.day) (λ t. t) start n t past (count - 1) r → Owns file start n (transfer_in file count at start) 0 r
  first_owns k = walked_next before_first (some_transfers sound) (le_refl 0) k

-- the provider of the transfer in force
latest_provider : (before : Transfer) (ts : List Transfer) (x : ℕ) → latest (λ t. t.day) (λ t. t.provider) before.provider ts x ≡ (latest (λ t. t.day) (λ t. t) before ts x).provider
unfolding latest
latest_provider before [] x = refl
latest_provider before (t ∷ ts) x = pick (leb t.day x) (λ b. latest_provider b ts x)
  where
    pick : (c : Bool) → ((b : Transfer) → latest (λ t. t.day) (λ t. t.provider) b.provider ts x ≡ (latest (λ t. t.day) (λ t. t) b ts x).provider) →
        latest (λ t. t.day) (λ t. t.provider) (cond c t.provider before.provider) ts x ≡ (latest (λ t. t.day) (λ t. t) (cond c t before) ts x).provider
    pick true later = later t
    pick false later = later before

pub owner_is : (file : List ℕ) (count at start i : ℕ) → (transfer_in file count at start i).provider ≡ owner_of file count at start i
owner_is file count at start i = sym (latest_provider (record { day = 0; provider = 0 }) (transfers file count at) (start + i))

-- BEFORE THE FIRST condition all fields are 0
pub no_groups : (g : Groups) → (g.state ≡ 0) × (g.rateable ≡ 0) → condition_of g ≡ no_condition
unfolding condition_of no_condition
no_groups g e = rw (e.0, e.1) refl

module _ {file : List ℕ} {count at : ℕ} (start n : ℕ) (sound : SoundConditions file count at) where
  pub conditions_small : at < 2 ^ 32
  conditions_small = omega (arith, sound.ends, forward {next = λ at c. after_condition at} (λ at c. omega arith) at (conditions file count at))

  pub none_holds : {g : Groups} {r : InForce Groups} → (g.state ≡ 0) × (g.rateable ≡ 0) → ReadAhead (condition_at file) condition_bits (λ c. c.day) condition_of start n g at count r →
      Held file start n (condition_in file count at start) 0 r
  none_holds {g} z k = rw (k.now, k.left, no_groups g z)
      record {
        at = at;
        read = (k.ahead, k.next);
        within = sound.ends;
        walk = record { ascend = sound.ascend; same = λ j a b. refl; ends = end_is (condition_at file) (λ at c. after_condition at) (λ c. c.day) start n count at k.ahead (ap (λ c. c.day) (sym k.ahead)) k.end };
      }
