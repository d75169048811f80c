use Prim.Native.Nat.{◌-◌}
use Rattle.rules.specs.File.{meters, after_meters}
use Rattle.records.proofs.Skip.{MetersLeft}
use Rattle.records.proofs.after_meters.Given as goal

abbrev pub invariant-loop : goal.invariant-loop
invariant-loop l = MetersLeft l.file (l.fn.list.count - l.counter) l.next.at (after_meters l.fn.list.first.at (meters l.file l.fn.list.count l.fn.list.first.at))
