use mathlib.Core.Path.{◌≡◌}
use lib.ListN.{length}
use Rattle.bands.specs.Bands.{SizesOf}
use Rattle.bands.proofs.Bands.read.Given as goal

abbrev pub invariant-loop-k : goal.invariant-loop-k
invariant-loop-k g l = SizesOf l.file l.k l.first.at l.sizes.items × (length l.sizes.items ≡ l.k)
