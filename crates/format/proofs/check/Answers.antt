-- `check` meets its contract. Each loop's invariant says that the refusal of the whole file is that of what is still to come. Assumes nothing.
use mathlib.Core.Path.{refl, sym}
use native.Mathlib.Omega.{arith}
use Rattle.rules.proofs.Accepted.{accepted}
use Rattle.rules.proofs.Exits.{handed_on}
use Rattle.rules.proofs.Judged.{meter_digits}
use Rattle.format.proofs.Walk.{has_room, stops, goes_on, ends, too_long, header_stops, opens, file_ends}
use Rattle.format.proofs.check.Goals as goal

pub returns-then-file-gt-MOST_BYTES-clause-number : goal.returns-then-file-gt-MOST_BYTES-clause-number
returns-then-file-gt-MOST_BYTES-clause-number c = too_long _ c.if-file-gt-MOST_BYTES.true

pub returns-in_err-header-clause-number : goal.returns-in_err-header-clause-number
returns-in_err-header-clause-number c = rw (handed_on c.from_residual.ensures.1)
    (header_stops _ c.if-file-gt-MOST_BYTES.false c.header-header.ensures _ c.in_err-header.ensures)

pub bands-init : goal.bands-init
bands-init c = opens _ c.if-file-gt-MOST_BYTES.false c.header-header.ensures c.in_ok-header.ensures

pub overflow_add-least : goal.overflow_add-least
overflow_add-least c = omega (arith, has_room c.bands.invariant c.bands-test.true c.band-band.ensures)

pub bands-preserved : goal.bands-preserved
bands-preserved c = goes_on c.bands.invariant c.bands-test.true c.band-band.ensures c.in_default.ensures

pub points-init : goal.points-init
points-init c = ends c.bands.invariant c.bands-test.false

pub overflow_add-lowest : goal.overflow_add-lowest
overflow_add-lowest c = omega (arith, has_room c.points.invariant c.points-test.true c.point-point.ensures)

pub transfers-init : goal.transfers-init
transfers-init c = goes_on c.points.invariant c.points-test.true c.point-point.ensures c.in_default-point.ensures

pub overflow_add-from : goal.overflow_add-from
overflow_add-from c = omega (arith, has_room c.transfers.invariant c.transfers-test.true c.transfer-transfer.ensures)

pub transfers-preserved : goal.transfers-preserved
transfers-preserved c = goes_on c.transfers.invariant c.transfers-test.true c.transfer-transfer.ensures c.in_default-transfer.ensures

pub conditions-init : goal.conditions-init
conditions-init c = ends c.transfers.invariant c.transfers-test.false

pub overflow_add-earliest : goal.overflow_add-earliest
overflow_add-earliest c = omega (arith, has_room c.conditions.invariant c.conditions-test.true c.condition-condition.ensures)

pub conditions-preserved : goal.conditions-preserved
conditions-preserved c = goes_on c.conditions.invariant c.conditions-test.true c.condition-condition.ensures c.in_default-condition.ensures

pub meters-init : goal.meters-init
meters-init c = ends c.conditions.invariant c.conditions-test.false

pub new-dial-requires : goal.new-dial-requires
new-dial-requires c = let digits = meter_digits _ _ _ _ (sym c.in_default-meter.ensures) in omega (arith, digits.0, digits.1)

pub reads-init : goal.reads-init
reads-init c = rw c.new-dial.ensures (goes_on c.meters.invariant c.meters-test.true c.meter-meter.ensures c.in_default-meter.ensures)

pub overflow_add-limits : goal.overflow_add-limits
overflow_add-limits c = omega (arith, has_room c.reads.invariant c.reads-test.true c.read-read.ensures)

pub overflow_add-limits-in-reads : goal.overflow_add-limits-in-reads
overflow_add-limits-in-reads c = omega (arith, has_room c.reads.invariant c.reads-test.true c.read-read.ensures)

pub reads-preserved : goal.reads-preserved
reads-preserved c = goes_on c.reads.invariant c.reads-test.true c.read-read.ensures c.in_default-read.ensures

pub meters-preserved : goal.meters-preserved
meters-preserved c = ends c.reads.invariant c.reads-test.false

pub points-preserved : goal.points-preserved
points-preserved c = ends c.meters.invariant c.meters-test.false

pub returns-in-Err-clause-number : goal.returns-in-Err-clause-number
returns-in-Err-clause-number c = stops c.bands.invariant c.bands-test.true c.band-band.ensures c.in-Err.breach c.in-Err.ensures

pub returns-in-Err-point-clause-number : goal.returns-in-Err-point-clause-number
returns-in-Err-point-clause-number c = stops c.points.invariant c.points-test.true c.point-point.ensures c.in-Err-point.breach c.in-Err-point.ensures

pub returns-in-Err-transfer-clause-number : goal.returns-in-Err-transfer-clause-number
returns-in-Err-transfer-clause-number c = stops c.transfers.invariant c.transfers-test.true c.transfer-transfer.ensures c.in-Err-transfer.breach c.in-Err-transfer.ensures

pub returns-in-Err-condition-clause-number : goal.returns-in-Err-condition-clause-number
returns-in-Err-condition-clause-number c = stops c.conditions.invariant c.conditions-test.true c.condition-condition.ensures c.in-Err-condition.breach c.in-Err-condition.ensures

pub returns-in-Err-meter-clause-number : goal.returns-in-Err-meter-clause-number
returns-in-Err-meter-clause-number c = stops c.meters.invariant c.meters-test.true c.meter-meter.ensures c.in-Err-meter.breach c.in-Err-meter.ensures

pub returns-in-Err-read-clause-number : goal.returns-in-Err-read-clause-number
returns-in-Err-read-clause-number c = stops c.reads.invariant c.reads-test.true c.read-read.ensures c.in-Err-read.breach c.in-Err-read.ensures

pub returns-in_err-padding-clause-number : goal.returns-in_err-padding-clause-number
returns-in_err-padding-clause-number c = rw (handed_on c.from_residual-in_err-padding.ensures.1) (file_ends (ends c.points.invariant c.points-test.false) c.in_err-padding.ensures)

pub invariant_of-result : goal.invariant_of-result
invariant_of-result c =
    record {
      good = accepted _ _ (sym (file_ends (ends c.points.invariant c.points-test.false) c.in_ok-padding.ensures));
      header = c.header-header.ensures.0;
      listed = (c.header-header.ensures.1, refl);
    }

pub returns-in_ok-padding-clause-number : goal.returns-in_ok-padding-clause-number
returns-in_ok-padding-clause-number c = file_ends (ends c.points.invariant c.points-test.false) c.in_ok-padding.ensures
