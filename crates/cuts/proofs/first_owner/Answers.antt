-- `cuts::first_owner` meets its contract: the first transfer is not after the first day. Assumes nothing.
use native.Mathlib.Omega.{arith}
use Rattle.providers.proofs.Runs.{transfers_within, some_transfers}
use Rattle.cuts.proofs.Walks.{first_small, first_owns}
use Rattle.cuts.proofs.first_owner.Goals as goal

pub transfer-first-requires : goal.transfer-first-requires
transfer-first-requires c = transfers_within c.requires

pub in_force-requires : goal.in_force-requires
in_force-requires c = first_small 0 c.requires c.transfer-first.ensures

pub overflow_sub-list : goal.overflow_sub-list
overflow_sub-list c = omega (arith, some_transfers c.requires)

pub returns : goal.returns
returns c = (first_owns _ c.requires c.transfer-first.ensures c.in_force.ensures, c.in_force.ensures.left)
