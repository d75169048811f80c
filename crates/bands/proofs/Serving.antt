-- The bands of a tariff: which of them serves, by their sizes. Assumes nothing.
use Prim.Native.Nat.{ℕ, zero, suc, ◌+◌, ◌-◌, ◌*◌, ◌^◌, ◌≤◌, ◌<◌, zero-le}
use mathlib.Core.Path.{◌≡◌, refl, sym, ap, ◌∙◌}
use mathlib.Core.Bool.{true, false}
use mathlib.Core.List.{List, map}
use native.Mathlib.Nat.{le_refl}
use native.Mathlib.Omega.{arith}
use borrow.Author.Tests.{leb-true, leb-false}
use lib.Dec.{leb}
use lib.ListN.{length, get_or}
use Rattle.std.specs.List.{between}
use Rattle.std.specs.List.Sorted.{IsPartitionedBy, IsPartitionPoint}
use Rattle.std.proofs.lemmas.Bool.Decides.{nat_tests}
use Rattle.std.proofs.lemmas.List.Edits.{length-between, get_or-between}
use Rattle.std.proofs.lemmas.List.Sorted.{IsPartitionedBy-leb}
use Rattle.rules.specs.declared.Band.{Band}
use Rattle.rules.specs.Lists.{Ascending, latest}
use Rattle.rules.specs.File.{band_bits, records, band_at, bands, after_band, after_bands}
use Rattle.rules.specs.Charges.{first_band, band_for}
use Rattle.rules.proofs.Lists.{there}
use Rattle.rules.proofs.Positions.{records_wide}
use Rattle.records.proofs.Ahead.{read_one}
use Rattle.bands.specs.Bands.{SizesOf}

-- BANDS, all of one width
pub band_within : (file : List ℕ) (at : ℕ) {n k : ℕ} → after_bands at (bands file n at) < 2 ^ 32 → k < n → at + k * band_bits < 2 ^ 32
band_within file at {n} h l = omega (arith, records_wide band_bits (band_at file) n at)

module _ (file : List ℕ) (size : ℕ) where
  abbrev key : ℕ → ℕ
  key at = (band_at file at).size

  -- what serves, of a band and of those behind it
  abbrev served : Band → List Band → Band
  served first bs = latest (λ b. b.size) (λ b. b) first bs size

  -- none of those behind it, where all are above the size
  served_none : (first : Band) (n at : ℕ) → ((j : ℕ) → j < n → size < key (at + j * band_bits)) → served first (bands file n at) ≡ first
  unfolding latest records
  served_none first zero at h = refl
  served_none first (suc n) at h = grind (arith, nat_tests, h 0, served_none first n (after_band at) (λ j l. grind (arith, h (suc j))))

  -- the last one that is not above the size
  served_at : (n at k : ℕ) → k ≤ n → ((j : ℕ) → j < k → key (at + suc j * band_bits) ≤ size) → ((j : ℕ) → k ≤ j → j < n → size < key (at + suc j * band_bits)) → served (band_at file at) (bands file n (after_band at)) ≡ band_at file (at + k * band_bits)
  unfolding latest records
  served_at n at zero h below above = grind (arith, served_none (band_at file at) n (after_band at) (λ j l. grind (arith, above j zero-le l)))
  served_at zero at (suc k) h below above = absurd (omega arith)
  served_at (suc n) at (suc k) h below above =
      grind (arith, nat_tests, below 0, served_at n (after_band at) k (omega arith) (λ j l. grind (arith, below (suc j))) (λ j l r. grind (arith, above (suc j))))

  -- their sizes ascend
  rising_from : (low n at : ℕ) → Ascending low (map (λ b. b.size) (bands file n at)) → (j : ℕ) → j < n → low ≤ key (at + j * band_bits)
  unfolding records
  rising_from low zero at up j h = absurd (omega arith)
  rising_from low (suc n) at up zero h = grind (arith, up.0)
  rising_from low (suc n) at up (suc j) h = grind (arith, up.0, rising_from (suc (key at)) n (after_band at) up.1 j (omega arith))

  rising_at : (low n at : ℕ) → Ascending low (map (λ b. b.size) (bands file n at)) → (i j : ℕ) → i ≤ j → j < n → key (at + i * band_bits) ≤ key (at + j * band_bits)
  unfolding records
  rising_at low zero at up i j h l = absurd (omega arith)
  rising_at low (suc n) at up zero zero h l = omega arith
  rising_at low (suc n) at up zero (suc j) h l = grind (arith, rising_from (suc (key at)) n (after_band at) up.1 j (omega arith))
  rising_at low (suc n) at up (suc i) zero h l = absurd (omega arith)
  rising_at low (suc n) at up (suc i) (suc j) h l = grind (arith, rising_at (suc (key at)) n (after_band at) up.1 i j (omega arith) (omega arith))

  -- THE SEARCH in the sizes behind the first, as a slice has them
  module _ {at : ℕ} {sizes slice : List ℕ} (is : slice ≡ sizes) (some : 1 ≤ length sizes) (u : SizesOf file (length sizes) at sizes) where
    abbrev later : List ℕ
    later = between 1 (length slice) slice

    later_many : length later ≡ length sizes - 1
    later_many = omega (arith, ap length is, length-between slice 1 (length slice) (le_refl _))

    later_size : (j d : ℕ) → suc j < length sizes → get_or later j d ≡ key (at + suc j * band_bits)
    later_size j d h =
        get_or-between slice 1 (length slice) j d (omega (arith, ap length is)) ∙ there slice (1 + j) d 0 (omega (arith, ap length is)) ∙ ap (λ xs. get_or xs (1 + j) 0) is
        ∙ u.each (1 + j) (omega arith) ∙ grind arith

    pub later_parted : Ascending 0 (map (λ b. b.size) (bands file (length sizes) at)) → IsPartitionedBy (λ y. leb y size) later
    later_parted up = IsPartitionedBy-leb (λ y. y) later size (λ i j d h l.
        omega (arith, later_many, later_size i d (omega (arith, later_many)), later_size j d (omega (arith, later_many)), rising_at 0 (length sizes) at up (suc i) (suc j) (omega arith) (omega (arith, later_many))))

    module _ {k : ℕ} (few : k ≤ length later) where
      pub later_few : k < length sizes
      later_few = omega (arith, later_many)

      pub serves : {place : ℕ} → place ≡ at + k * band_bits → IsPartitionPoint (λ y. leb y size ≡ true) (λ y. leb y size ≡ false) later k → (size ≡ 0 → ⊥) → band_at file place ≡ band_for (bands file (length sizes) at) size
      unfolding latest band_for first_band
      serves e point real =
          ap (band_at file) e
          ∙ sym (served_at (length sizes - 1) at k (omega (arith, later_many))
          (λ j l. omega (arith, leb-true _ _ (point.0 j 0 zero-le l), later_size j 0 (omega (arith, later_many))))
          (λ j l r. omega (arith, leb-false _ _ (point.1 j 0 l (omega (arith, later_many))), later_size j 0 (omega (arith, later_many)))))
          ∙ sym (ap (λ bs. band_for bs size) (read_one (band_at file) (λ at b. after_band at) (length sizes) at (omega arith) (refl, refl)) ∙ grind (arith, nat_tests))
