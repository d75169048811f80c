-- The bands of a tariff, with their sizes.
use Rattle.std.specs.Prelude.{ℕ, ◌+◌, ◌*◌, ◌≤◌, ◌<◌, ◌≡◌, List, length, get_or}
use Rattle.rules.specs.declared.Band.{Band}
use Rattle.rules.specs.File.{band_bits, band_at, bands}
use Rattle.bands.specs.declared.Bands.{Bands}

-- the first of the sizes are those of so many bands, from a position on
pub record SizesOf (file : List ℕ) (count at : ℕ) (sizes : List ℕ) : Type 0 where
  pub long : count ≤ length sizes
  pub each : (k : ℕ) → k < count → get_or sizes k 0 ≡ (band_at file (at + k * band_bits)).size

-- there are so many bands, and these are their sizes
pub record BandsOf {N : ℕ} (file : List ℕ) (count : ℕ) (bands : Bands N) : Type 0 where
  pub many : length bands.sizes.items ≡ count
  pub sizes : SizesOf file count bands.first.at bands.sizes.items

-- the bands of a file that they are, so many from a position on
abbrev pub bands_in : {N : ℕ} → List ℕ → Bands N → List Band
bands_in file b = bands file (length b.sizes.items) b.first.at
