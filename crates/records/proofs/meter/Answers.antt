-- `meter` meets its contract: the record is what is cut out of its groups, and the positions add up. Assumes nothing.
use Rattle.records.proofs.Fields.{meter_taken}
use Rattle.records.proofs.meter.Goals as goal

pub returns : goal.returns
returns c = meter_taken
    c.take-size.ensures c.take-details.ensures
    c.cut.ensures c.cut-2.ensures c.cut-3.ensures c.cut-4.ensures c.cut-5.ensures c.cut-6.ensures
