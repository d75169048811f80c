use Rattle.std.proofs.Common.{arith}
use Rattle.batch.proofs.Cases.{loses_more}
use Rattle.batch.proofs.passed_over.Goals as goal

pub loop-done-preserved : goal.loop-done-preserved
loop-done-preserved g c = let n = c.in_ok-n in loses_more _ _ _ _ c.min-part.result _ _ _ _ c.loop-done.invariant n.ensures.bytes n.ensures.within n.ensures.same_length (omega arith) c.if-n-part.false (omega arith)

pub returns-else-n-part-clause-passed : goal.returns-else-n-part-clause-passed
returns-else-n-part-clause-passed g c h = let n = c.in_ok-n in loses_more _ _ _ _ c.min-part.result _ _ _ _ c.loop-done.invariant n.ensures.bytes n.ensures.within n.ensures.same_length (omega arith) c.if-n-part.false (omega arith)
