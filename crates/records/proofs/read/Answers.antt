-- `read` meets its contract: the record is what is cut out of its groups, and the positions add up. Assumes nothing.
use Rattle.records.proofs.Fields.{read_taken}
use Rattle.records.proofs.read.Goals as goal

pub returns : goal.returns
returns c = read_taken
    c.take-whole.ensures
    c.cut.ensures c.cut-2.ensures c.cut-3.ensures
