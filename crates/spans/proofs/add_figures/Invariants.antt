use Rattle.spans.proofs.Days.{Adding}
use Rattle.spans.specs.Spans.{figure_of}
use Prim.Native.Nat.{◌-◌}
use Rattle.spans.proofs.add_figures.Given as goal

abbrev pub invariant-loop-i : goal.invariant-loop-i
invariant-loop-i l = Adding l.initial.spans l.spans l.from l.to l.s l.i (λ q i'. figure_of l.each q)

abbrev pub decreases-loop-i : goal.decreases-loop-i
decreases-loop-i l = l.to - l.i
