-- `transfer` meets its contract: the record is what is cut out of its groups, and the positions add up. Assumes nothing.
use Rattle.records.proofs.Fields.{transfer_taken}
use Rattle.records.proofs.transfer.Goals as goal

pub returns : goal.returns
returns c = transfer_taken
    c.take-day_and_provider.ensures
    c.cut.ensures c.cut-2.ensures
