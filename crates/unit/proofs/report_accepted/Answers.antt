-- The rows fit, since they are the file's.
use mathlib.Core.Path.{ap, ◌∙◌}
use native.Mathlib.Omega.{arith}
use lib.ListN.{length}
use Rattle.unit.proofs.Reports.{rows_all_fit, only_rows}
use Rattle.unit.proofs.report_accepted.Goals as goal

pub new-requires-clause-fit : goal.new-requires-clause-fit
new-requires-clause-fit c =
    let is = c.rows_into.ensures.table_after ∙ only_rows _ _ _ (omega (arith, ap length c.as_slice-list.ensures.value, c.rows_into.ensures.file_len)) in
    rw is (rows_all_fit c.args.accepted.now)
