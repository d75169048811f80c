-- The blocks of the first rows, one row more at a time. Assumes nothing.
use mathlib.Core.Path.{◌≡◌, refl, sym, ap, ◌∙◌}
use mathlib.Core.List.{List, [], ◌∷◌, ◌++◌, append_assoc, append-nil}
use Prim.{tt}
use Prim.Native.Nat.{ℕ, suc, ◌+◌, ◌≤◌, ◌<◌}
use native.Mathlib.Numerals.{add-one}
use native.Mathlib.Omega.{arith}
use lib.ListN.{length, take, drop, get_or, length-append, take-append-drop}
use lib.Seq.{take-suc}
use Rattle.rules.specs.declared.Row.{Row}
use Rattle.rules.specs.Lists.{All}
use Rattle.rules.specs.Settlement.{days, litres}
use Rattle.rules.specs.Report.{block, blocks}

-- the row at an index; past the last it has nothing
abbrev no_row : Row
no_row = record { provider = 0; days = days 0; litres = litres 0; charges = [] }

abbrev pub row_at : List Row → ℕ → Row
row_at rows k = get_or rows k no_row

blocks_append : (xs ys : List Row) → blocks (xs ++ ys) ≡ blocks xs ++ blocks ys
unfolding blocks
blocks_append [] ys = refl
blocks_append (x ∷ xs) ys = ap (λ t. block x ++ t) (blocks_append xs ys) ∙ sym (append_assoc (block x) (blocks xs) (blocks ys))

blocks_one : (row : Row) → blocks (row ∷ []) ≡ block row
unfolding blocks
blocks_one row = append-nil (block row)

-- the blocks before a row, its own and those after it
module _ (rows : List Row) (k : ℕ) (h : k < length rows) where
  pub blocks_more : blocks (take (k + 1) rows) ≡ blocks (take k rows) ++ block (row_at rows k)
  blocks_more =
      rw (add-one, take-suc rows k no_row h) (blocks_append (take k rows) (row_at rows k ∷ []) ∙ ap (λ t. blocks (take k rows) ++ t) (blocks_one (row_at rows k)))

  -- where there is room for all blocks, there is for the one at k after those before it
  pub block_within : length (blocks (take k rows)) + length (block (row_at rows k)) ≤ length (blocks rows)
  block_within =
      let front = take (k + 1) rows in
      let back = drop (k + 1) rows in
      omega (
        arith,
        ap (λ t. length (blocks t)) (take-append-drop (k + 1) rows),
        ap length (blocks_append front back) ∙ length-append (blocks front) (blocks back),
        ap length blocks_more ∙ length-append (blocks (take k rows)) (block (row_at rows k)),
      )

-- what holds of the row at each index holds of all rows
pub all_by_place : (P : Row → Type 0) (rows : List Row) → ((k : ℕ) → k < length rows → P (row_at rows k)) → All P rows
all_by_place P [] each = tt
all_by_place P (r ∷ rs) each = (each 0 (omega arith), all_by_place P rs (λ k h. each (suc k) (omega arith)))
