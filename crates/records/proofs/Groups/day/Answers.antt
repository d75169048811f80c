-- `records::Groups::day` meets its contract. Assumes nothing.
use Rattle.records.specs.Conditions.{condition_of}
use Rattle.records.proofs.Groups.day.Goals as goal

pub returns : goal.returns
unfolding condition_of
returns c = c.cut.ensures.is
