-- One provider more at each turn.
use Rattle.std.proofs.Common.{arith, ◌≡◌, ◌^◌, ◌<◌}
use native.Mathlib.Decide.{dec_lt}
use Rattle.report.proofs.Rows.{row_at}
use Rattle.report.proofs.Report.new.Goals as goal

pub loop-row-preserved : goal.loop-row-preserved
loop-row-preserved c k h =
    let here : (row_at c.args.rows.now c.loop-row.row-index).provider < 2 ^ 64 = omega arith in
    elim (dec_lt k c.loop-row.row-index) [
      | yes l ↦ c.loop-row.invariant k l
      | no l ↦ let e : k ≡ c.loop-row.row-index = omega arith in rw e here
    ]
