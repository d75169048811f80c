-- The text of a report by its parts.
use Rattle.std.specs.Prelude.{ℕ, List}
use Rattle.rules.specs.Report.{report_of}
use Rattle.report.specs.declared.Report.{Report}

abbrev pub text_of : Report → List ℕ
text_of report = report_of report.service report.year report.rows.now
