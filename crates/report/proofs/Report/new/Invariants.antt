-- The providers of the rows so far are below 2 to the power 64.
use Rattle.std.proofs.Common.{ℕ, ◌^◌, ◌<◌}
use Rattle.report.proofs.Rows.{row_at}
use Rattle.report.proofs.Report.new.Given as goal

abbrev pub invariant-loop-row : goal.invariant-loop-row
invariant-loop-row l = (k : ℕ) → k < l.row-index → (row_at l.rows k).provider < 2 ^ 64
