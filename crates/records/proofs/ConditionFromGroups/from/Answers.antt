-- `Condition::from` of a condition's groups meets its contract. Assumes nothing.
use Rattle.records.specs.Conditions.{condition_of}
use Rattle.records.proofs.Fields.{condition_cut}
use Rattle.records.proofs.ConditionFromGroups.from.Goals as goal

pub returns : goal.returns
unfolding condition_of
returns c = condition_cut (record { is = c.day.ensures }) c.cut.ensures c.cut-2.ensures c.cut-3.ensures c.cut-4.ensures c.cut-5.ensures c.cut-6.ensures
