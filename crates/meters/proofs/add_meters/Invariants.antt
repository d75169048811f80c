use Prim.Native.Nat.{ℕ, ◌+◌}
use mathlib.Core.Path.{◌≡◌}
use Rattle.rules.specs.File.{meter_at, after_meter, meters as meters_at, after_meters}
use Rattle.bands.specs.Bands.{bands_in}
use Rattle.records.proofs.Ahead.{Ahead}
use Rattle.meters.proofs.Adding.{MetersLeft}
use Rattle.meters.proofs.add_meters.Given as goal

abbrev pub invariant-loop : goal.invariant-loop
invariant-loop g l = (left : ℕ) × (l.counter + left ≡ l.fn.list.count) × Ahead (meter_at l.file) after_meter left l.next.at (after_meters l.initial.next.at (meters_at l.file l.fn.list.count l.initial.next.at)) (MetersLeft l.every l.initial.spans l.spans l.days.count.0 l.days.from.0 (bands_in l.file l.bands) (meters_at l.file l.fn.list.count l.initial.next.at))
