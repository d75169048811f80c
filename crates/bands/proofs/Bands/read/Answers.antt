-- `bands::Bands::read` meets its contract: the sizes are those of the first k bands. Assumes nothing.
use native.Mathlib.Omega.{arith}
use Rattle.bands.proofs.Serving.{band_within}
use Rattle.bands.proofs.Bands.read.Goals as goal

pub past-band-requires : goal.past-band-requires
past-band-requires g c = omega (arith, band_within _ _ c.requires.1 c.loop-k-test.true)

pub band_size-requires : goal.band_size-requires
band_size-requires g c = omega (arith, band_within _ _ c.requires.1 c.loop-k-test.true)
