-- Records that are read one at a time, from a position on. Assumes nothing.
use Prim.Native.Nat.{ℕ, zero, suc, ◌-◌, ◌≤◌, ◌<◌}
use mathlib.Core.Path.{◌≡◌, sym, ap, ◌∙◌, subst}
use mathlib.Core.List.{List, [], ◌∷◌}
use native.Mathlib.Omega.{arith}
use Rattle.rules.specs.File.{records, after}
use Rattle.rules.proofs.Positions.{forward}

-- ANY LIST of records: `left` of them are left from the position `at` on and end at `end`, and K holds of them
pub record Ahead {A : Type 0} (here : ℕ → A) (next : ℕ → A → ℕ) (left at end : ℕ) (K : List A → Type 0) : Type 0 where
  pub ends : after next at (records here next left at) ≡ end
  pub holds : K (records here next left at)

module _ {A : Type 0} (here : ℕ → A) (next : ℕ → A → ℕ) where
  records_more : (n at : ℕ) → 0 < n → records here next n at ≡ here at ∷ records here next (n - 1) (next at (here at))
  unfolding records
  records_more zero at h = absurd (omega arith)
  records_more (suc n) at h = ap (λ k. here at ∷ records here next k (next at (here at))) {x = n} {y = suc n - 1} (omega arith)

  -- a record that was read, and those after it
  module _ (n at : ℕ) {at' : ℕ} {x : A} (h : 0 < n) (e : (x ≡ here at) × (at' ≡ next at (here at))) where
    pub read_one : records here next n at ≡ x ∷ records here next (n - 1) at'
    read_one = rw (e.0, e.1) (records_more n at h)

    pub read_past : after next at (records here next n at) ≡ after next at' (records here next (n - 1) at')
    unfolding after
    read_past = rw e.1 (ap (after next at) (records_more n at h))

module _ {A : Type 0} {here : ℕ → A} {next : ℕ → A → ℕ} {n at end : ℕ} {K : List A → Type 0} (u : Ahead here next n at end K) where
  module _ {at' : ℕ} {x : A} (h : 0 < n) (e : (x ≡ here at) × (at' ≡ next at (here at))) where
    here_is : K (x ∷ records here next (n - 1) at')
    here_is = subst K (read_one here next n at h e) u.holds

    -- what K says of the record
    pub ahead_one : {P : Type 0} → ((xs : List A) → K (x ∷ xs) → P) → P
    ahead_one f = f _ here_is

    pub ahead_turn : {K' : List A → Type 0} → ((xs : List A) → K (x ∷ xs) → K' xs) → Ahead here next (n - 1) at' end K'
    ahead_turn f = record { ends = sym (read_past here next n at h e) ∙ u.ends; holds = f _ here_is }

    pub ahead_past : ((at : ℕ) (x : A) → at ≤ next at x) → at' ≤ end
    ahead_past step = omega (arith, forward step at' (records here next (n - 1) at'), read_past here next n at h e, u.ends)

  pub ahead_within : ((at : ℕ) (x : A) → at ≤ next at x) → at ≤ end
  ahead_within step = omega (arith, forward step at (records here next n at), u.ends)

  pub ahead_done : n ≡ 0 → (at ≡ end) × K []
  unfolding records after
  ahead_done z = let v = subst (λ n. Ahead here next n at end K) z u in (v.ends, v.holds)
