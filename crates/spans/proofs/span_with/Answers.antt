-- `spans::span_with` meets its contract: the span s does not begin after entry i. Assumes nothing.
use native.Mathlib.Omega.{arith}
use Rattle.spans.specs.Spans.{span_in}
use Rattle.spans.proofs.Days.{reached_next}
use Rattle.spans.proofs.span_with.Goals as goal

pub loop-s-preserved : goal.loop-s-preserved
unfolding span_in
loop-s-preserved c = reached_next c.loop-s.invariant c.requires.1 (omega arith)
