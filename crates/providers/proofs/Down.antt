-- The last number of a list is brought down to its place, by one place after the other. Assumes nothing.
use Prim.Native.Nat.{ℕ, zero, suc, ◌≤◌, ◌<◌}
use mathlib.Core.Path.{◌≡◌, refl, ap, sym, ◌∙◌}
use mathlib.Core.List.{List, [], ◌∷◌, ◌++◌}
use native.Mathlib.Omega.{arith}
use lib.ListN.{length, get_or, set, length-append, length-set}
use Rattle.std.specs.List.{insert, swap}
use Rattle.std.proofs.lemmas.List.Edits.{swap_is, length-insert, length-swap}

-- what stood last in a list now stands before those from a place on
pub record Down (list out : List ℕ) (at : ℕ) : Type 0 where
  pub within : at < length list
  pub long : length out ≡ length list
  pub down : (front : List ℕ) (last : ℕ) → list ≡ front ++ last ∷ [] → out ≡ insert front at last

-- two neighbours in each other's place
neighbours : (front : List ℕ) (last k : ℕ) → k < length front →
    set (set (insert front (suc k) last) k (get_or (insert front (suc k) last) (suc k) 0)) (suc k) (get_or (insert front (suc k) last) k 0) ≡ insert front k last
neighbours [] last k h = absurd (omega arith)
neighbours (x ∷ xs) last zero h = refl
neighbours (x ∷ xs) last (suc k) h = ap (λ ys. x ∷ ys) (neighbours xs last k (omega arith))

pub down_turn : (list out after : List ℕ) (k j : ℕ) → j ≡ suc k → after ≡ swap out k j → Down list out j → Down list after k
down_turn list out after k j next swapped s =
    record {
      within = omega (arith, s.within);
      long = ap length swapped ∙ length-swap out k j ∙ s.long;
      down = λ front last same.
          let fits : suc k ≤ length front = omega (arith, s.within, ap length same, length-append front (last ∷ [])) in
          let long = length-insert front (suc k) last fits in
          let before : out ≡ insert front (suc k) last = s.down front last same ∙ ap (λ i. insert front i last) next in
          swapped ∙ rw (next, before) (sym (swap_is (insert front (suc k) last) k (suc k) 0 (omega arith) (omega arith)) ∙ neighbours front last k fits);
    }

-- a number goes up by one and the last one is put where it stood: the same as if the last one had stood above it and the two changed places
up_one : (out : List ℕ) (last k : ℕ) → suc k < length out →
    set (set out (suc k) (get_or out k 0)) k last ≡ set (set (set out (suc k) last) k (get_or (set out (suc k) last) (suc k) 0)) (suc k) (get_or (set out (suc k) last) k 0)
up_one [] last k h = absurd (omega arith)
up_one (x ∷ []) last zero h = absurd (omega arith)
up_one (x ∷ y ∷ ys) last zero h = refl
up_one (x ∷ xs) last (suc k) h = ap (λ ys. x ∷ ys) (up_one xs last k (omega arith))

pub down_by_one : (list out : List ℕ) (last k j : ℕ) → j ≡ suc k → Down list (set out j last) j → Down list (set (set out j (get_or out k 0)) k last) k
down_by_one list out last k j next s =
    let within : suc k < length (set out (suc k) last) = omega (arith, s.within, s.long, ap (λ i. length (set out i last)) next) in
    let swapped = up_one out last k (omega (arith, within, length-set out (suc k) last)) ∙ swap_is (set out (suc k) last) k (suc k) 0 (omega (arith, within)) within in
    down_turn list (set out j last) _ k j next (rw next swapped) s
