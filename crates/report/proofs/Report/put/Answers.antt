-- One block more at each turn.
use Rattle.std.proofs.Common.{arith, append_assoc}
use Rattle.text.specs.Puts.{taken_then}
use Rattle.report.proofs.Rows.{blocks_more}
use Rattle.report.proofs.Report.put.Goals as goal

pub loop-row-preserved : goal.loop-row-preserved
loop-row-preserved g c =
    let more = blocks_more c.args.self.now.rows.now c.loop-row.row-index (omega arith) in
    let taken = taken_then g.met.S.Sink.goes_on c.loop-row.invariant c.put_block.ensures in
    rw (more, ← append_assoc) taken
