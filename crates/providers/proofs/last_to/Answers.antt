-- `last_to` meets its contract: each turn brings the last number down by one place. Assumes nothing.
use native.Mathlib.Omega.{arith}
use Rattle.providers.proofs.Down.{down_by_one}
use Rattle.providers.proofs.last_to.Goals as goal

pub loop-place-preserved : goal.loop-place-preserved
loop-place-preserved c = (down_by_one _ _ _ _ _ (omega arith) c.loop-place.invariant.0, omega arith)
