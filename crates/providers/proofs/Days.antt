-- The providers of a point's days, put into a list run by run. Assumes nothing.
use Prim.Native.Nat.{ℕ, zero, suc, ◌+◌, ◌-◌, ◌^◌, ◌≤◌, ◌<◌, min}
use mathlib.Core.Path.{◌≡◌, refl, ap, ap₂, sym, ◌∙◌}
use mathlib.Core.Bool.{cond}
use mathlib.Core.Logic.{⊎_elim}
use mathlib.Core.List.{List, [], ◌∷◌}
use native.Mathlib.Nat.{le_refl}
use native.Mathlib.Omega.{arith}
use native.Mathlib.Decide.{dec_lt}
use borrow.Author.Tests.{lt-ltb, le-ltb, eq-eqb, ne_eqb}
use lib.Dec.{eqb}
use lib.ListN.{length}
use Rattle.rules.specs.Lists.{insert}
use Rattle.rules.specs.declared.Transfer.{Transfer}
use Rattle.rules.specs.File.{Point, transfer_at, after_transfer, transfers}
use Rattle.rules.specs.Settlement.{provider_on, insert_days}
use Rattle.rules.proofs.Lists.{three}
use Rattle.providers.specs.Listed.{insert_run}
use Rattle.providers.specs.Runs.{SoundTransfers, Reading}
use Rattle.providers.proofs.Insert.{insert_longer}
use Rattle.providers.proofs.Runs.{Run, point_run, owner_by, reading_first, reading_small, reading_next, reading_forward, reading_within, reading_under, reading_later, reading_end}

-- who is there already is not put in again
pub insert_again : (p : ℕ) (xs : List ℕ) → insert p (insert p xs) ≡ insert p xs
unfolding insert
insert_again p [] = simp (le-ltb p p (omega arith), eq-eqb p p refl)
insert_again p (x ∷ xs) =
    ⊎_elim (λ l. simp (lt-ltb p x l, le-ltb p p (omega arith), eq-eqb p p refl))
    (⊎_elim (λ e. simp (le-ltb p x (omega arith), eq-eqb p x e))
    (λ g. simp (le-ltb p x (omega arith), ne_eqb p x (omega arith)) (ap (λ ys. x ∷ ys) (insert_again p xs))))
    (three p x)

module _ (point : Point) (start : ℕ) where
  -- further days never shorten a list
  pub days_longer : (from more : ℕ) (ps : List ℕ) → length (insert_days point start from ps) ≤ length (insert_days point start (more + from) ps)
  unfolding insert_days
  days_longer from zero ps = omega (arith, ap (λ k. length (insert_days point start k ps)) {x = 0 + from} {y = from} (omega arith))
  days_longer from (suc more) ps =
      let size : suc more + from ≡ suc (more + from) = omega arith in
      omega (arith, ap (λ k. length (insert_days point start k ps)) size, days_longer from more ps, insert_longer (provider_on point (start + (more + from))) (insert_days point start (more + from) ps))

  -- the days of a run that has one
  some_days : (from m p : ℕ) → ((i : ℕ) → from ≤ i → i < suc (m + from) → provider_on point (start + i) ≡ p) → (ps : List ℕ) →
      insert_days point start (suc (m + from)) ps ≡ insert p (insert_days point start from ps)
  unfolding insert_days
  some_days from zero p same ps = ap₂ insert (same (0 + from) (omega arith) (omega arith)) (ap (λ k. insert_days point start k ps) {x = 0 + from} {y = from} (omega arith))
  some_days from (suc m) p same ps =
      let earlier = some_days from m p (λ i a b. same i a (omega arith)) ps in
      let size : suc m + from ≡ suc (m + from) = omega arith in
      ap₂ insert (same (suc m + from) (omega arith) (omega arith)) (ap (λ k. insert_days point start k ps) size ∙ earlier) ∙ insert_again p (insert_days point start from ps)

  -- the days up to a run's end are those before it, and its provider once
  run_days : {n from to p : ℕ} → Run (λ i. provider_on point (start + i)) n from to p → (ps : List ℕ) →
      insert_days point start to ps ≡ insert_run p from to (insert_days point start from ps)
  run_days {n} {from} {to} {p} run ps = go (dec_lt from to)
    where
      go : Dec (from < to) → insert_days point start to ps ≡ insert_run p from to (insert_days point start from ps)
      go (yes l) =
          let m = to - (from + 1) in
          let size : to ≡ suc (m + from) = omega arith in
          rw (lt-ltb from to l) (ap (λ k. insert_days point start k ps) size ∙ some_days from m p (λ i a b. run.same i a (omega (arith, size))) ps)
      go (no l) = rw (le-ltb from to (omega arith)) (ap (λ k. insert_days point start k ps) {x = to} {y = from} (omega (arith, run.forwards)))

-- THE LOOP over a point's transfers: the days of the runs that were passed are put in, and the transfer of the next day is read
module _ (file : List ℕ) (count at start n : ℕ) where
  pub record Putting (before list : List ℕ) (left : ℕ) (t : Transfer) (next from : ℕ) : Type 0 where
    -- whose run was passed last
    pub passed : ℕ
    pub runs : Reading (transfer_at file) (λ at t. after_transfer at) (λ t. t.day) (λ t. t.provider) start n (owner_by (transfers file count at) start) from passed t next left from
    pub put : (point : Point) → point.transfers ≡ transfers file count at → list ≡ insert_days point start from before

  pub putting_begin : {list : List ℕ} → SoundTransfers file count at start → {t : Transfer} {next : ℕ} → (t ≡ transfer_at file at) × (next ≡ after_transfer at) → Putting list list count t next 0
  unfolding insert_days
  putting_begin sound read = record { passed = 0; runs = reading_first sound (λ t. t.provider) 0 n read; put = λ point e. refl }

  module _ {before list : List ℕ} {left : ℕ} {t : Transfer} {next from : ℕ} (u : Putting before list left t next from) where
    pub putting_small : 0 < left → next < 2 ^ 32
    putting_small = reading_small u.runs (λ at t. omega arith)

    module _ {after to : ℕ} {later : Transfer} (h : 0 < left) (read : (later ≡ transfer_at file next) × (after ≡ after_transfer next))
        (g : to ≡ cond (eqb (left - 1) 0) n (min (later.day - start) n)) where
      here : Reading (transfer_at file) (λ at t. after_transfer at) (λ t. t.day) (λ t. t.provider) start n (owner_by (transfers file count at) start) from t.provider later after (left - 1) to
      here = reading_next u.runs h read refl g (le_refl from)

      run : Run (owner_by (transfers file count at) start) n from to t.provider
      run = record { forwards = reading_forward u.runs h read refl g; within = reading_within here; same = reading_under here }

      -- the list with the provider of the run
      run_put : (point : Point) → point.transfers ≡ transfers file count at → insert_run t.provider from to list ≡ insert_days point start to before
      run_put point same = ap (insert_run t.provider from to) (u.put point same) ∙ sym (run_days point start (point_run point start same run) before)

      pub putting_turn : {out : List ℕ} → out ≡ insert_run t.provider from to list → Putting before out (left - 1) later after to
      putting_turn one = record { passed = t.provider; runs = reading_later here run.forwards; put = λ point same. one ∙ run_put point same }

      -- where it has no room, neither has the list with all days
      pub putting_over : (point : Point) → point.transfers ≡ transfers file count at → 64 < length (insert_run t.provider from to list) → 64 < length (insert_days point start n before)
      putting_over point same over =
          omega (arith, over, ap length (run_put point same), days_longer point start to (n - to) before, ap (λ k. length (insert_days point start k before)) {x = n - to + to} {y = n} (omega (arith, run.within)))

    pub putting_end : left ≤ 0 → (point : Point) → point.transfers ≡ transfers file count at → list ≡ insert_days point start n before
    putting_end h point same = rw (reading_end u.runs h) at (u.put point same)
