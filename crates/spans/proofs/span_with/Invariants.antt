use Rattle.spans.specs.Spans.{Reached}
use Prim.Native.Nat.{◌-◌}
use lib.ListN.{length}
use Rattle.spans.proofs.span_with.Given as goal

abbrev pub invariant-loop-s : goal.invariant-loop-s
invariant-loop-s l = Reached l.spans (length l.spans) l.s l.i

abbrev pub decreases-loop-s : goal.decreases-loop-s
decreases-loop-s l = length l.spans - l.s
