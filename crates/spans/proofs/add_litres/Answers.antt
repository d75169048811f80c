-- `spans::add_litres` meets its contract: one sum of the span becomes more. Assumes nothing.
use native.Mathlib.Omega.{arith}
use Rattle.spans.proofs.Written.{litres_added}
use Rattle.spans.specs.Spans.{span_in, litres_sum}
use Rattle.spans.proofs.add_litres.Goals as goal

pub overflow_add-spans : goal.overflow_add-spans
unfolding span_in
overflow_add-spans c = omega (arith, c.requires.fits litres_sum)

pub returns : goal.returns
unfolding span_in
returns c = litres_added _ _ c.requires.within _
