use Rattle.unit.proofs.Reports.{within}
use Rattle.unit.proofs.settlement_report.Goals as goal

pub returns-clause-within : goal.returns-clause-within
returns-clause-within c = let said = c.report_accepted.ensures in within _ c.report_accepted.result _ _ said.answer said.refused said.after
