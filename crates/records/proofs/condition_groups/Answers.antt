-- `records::condition_groups` meets its contract. Assumes nothing.
use Rattle.records.proofs.Fields.{condition_taken}
use Rattle.records.proofs.condition_groups.Goals as goal

pub returns : goal.returns
returns c = condition_taken c.take-state.ensures c.take-rateable.ensures
