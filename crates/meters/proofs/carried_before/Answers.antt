-- `meters::carried_before` meets its contract: at the end of the last day all is carried, and nothing is divided by the number of days. Assumes
-- nothing.
use native.Mathlib.Omega.{arith}
use Rattle.meters.proofs.Advances.{carried_all}
use Rattle.meters.proofs.carried_before.Goals as goal

pub returns-then-a-day : goal.returns-then-a-day
returns-then-a-day c = carried_all _ _ _ (omega (arith, c.args.a.spreadable.some)) (omega arith)
