-- `band` meets its contract: the record is what is cut out of its groups, and the positions add up. Assumes nothing.
use Rattle.records.proofs.Fields.{band_taken}
use Rattle.records.proofs.band.Goals as goal

pub returns : goal.returns
returns c = band_taken
    c.take-charge.ensures c.take-limits.ensures
    c.cut.ensures c.cut-2.ensures c.cut-3.ensures c.cut-4.ensures
