-- p is what a's bits above k, times b, come to.
use Rattle.std.proofs.Common.{◌*◌, ◌/◌, ◌^◌}
use Rattle.exact.specs.Parts.{Of}
use Rattle.exact.proofs.long_product.Given as goal

abbrev pub invariant-loop-k : goal.invariant-loop-k
invariant-loop-k l = Of l.d (l.a / 2 ^ l.k * l.b) l.p
