-- `point` meets its contract: the record is what is cut out of its groups, and the positions add up. Assumes nothing.
use Rattle.records.proofs.Fields.{point_taken}
use Rattle.records.proofs.point.Goals as goal

pub returns : goal.returns
returns c = point_taken
    c.take-number.ensures c.take-days_and_counts.ensures
    c.cut.ensures c.cut-2.ensures c.cut-3.ensures c.cut-4.ensures c.cut-5.ensures
