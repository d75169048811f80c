use Rattle.providers.proofs.Days.{Putting}
use Rattle.providers.proofs.Providers.put_transfers.Given as goal

abbrev pub invariant-loop-left : goal.invariant-loop-left
invariant-loop-left l = Putting l.file l.fn.transfers.count l.fn.transfers.first.at l.days.from.0 l.days.count.0 l.initial.self.list.items l.self.list.items l.left l.own l.next.at l.from
