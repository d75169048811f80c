use Prim.Native.Nat.{◌-◌}
use Rattle.providers.proofs.Points.{Listing}
use Rattle.providers.proofs.provider_list.Given as goal

abbrev pub invariant-loop : goal.invariant-loop
invariant-loop l = Listing l.fn.file.bytes.now l.fn.file.head.year (l.fn.file.head.points - l.counter) l.next.at l.providers.list.items
