-- The heading and the blocks of the rows so far have been taken.
use Rattle.std.proofs.Common.{◌++◌, take}
use Rattle.rules.specs.Report.{heading, blocks}
use Rattle.text.specs.Written.{Taken}
use Rattle.report.proofs.Report.put.Given as goal

abbrev pub invariant-loop-row : goal.invariant-loop-row
invariant-loop-row g l =
    Taken g.S.Sink.at g.S.Sink.end g.S.Sink.takes l.fn.sink (heading l.self.service l.self.year ++ blocks (take l.row-index l.self.rows.now)) l.sink
