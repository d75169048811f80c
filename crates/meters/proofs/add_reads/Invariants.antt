use Prim.Native.Nat.{ℕ, ◌+◌, ◌-◌}
use mathlib.Core.Path.{◌≡◌}
use mathlib.Core.List.{◌∷◌}
use Rattle.rules.specs.File.{read_at, after_read, reads as reads_of, after_reads}
use Rattle.records.proofs.Ahead.{Ahead}
use Rattle.meters.proofs.Advances.{ReadsLeft}
use Rattle.meters.proofs.add_reads.Given as goal

abbrev pub invariant-loop : goal.invariant-loop
invariant-loop l = (left : ℕ) × (l.counter + left ≡ l.fn.head.reads) × Ahead (read_at l.file) (λ at r. after_read at) left l.next.at (after_reads l.initial.next.at (reads_of l.file (l.fn.head.reads - 1) l.initial.next.at)) (ReadsLeft l.fn.head (l.initial.earlier ∷ reads_of l.file (l.fn.head.reads - 1) l.initial.next.at) l.earlier l.initial.spans l.spans l.days.count.0 l.days.from.0 l.s)
