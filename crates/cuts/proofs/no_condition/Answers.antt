-- `cuts::no_condition` meets its contract: before the first record all are 0. Assumes nothing.
use Rattle.cuts.proofs.Walks.{conditions_small, none_holds}
use Rattle.cuts.proofs.no_condition.Goals as goal

pub in_force-requires : goal.in_force-requires
in_force-requires c = conditions_small 0 0 c.requires

pub returns : goal.returns
returns c = (none_holds _ _ c.requires c.default.ensures c.in_force.ensures, c.in_force.ensures.left)
