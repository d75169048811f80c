use Prim.Native.Nat.{◌+◌, ◌-◌}
use mathlib.Core.Path.{◌≡◌}
use Rattle.spans.proofs.Days.{Adding}
use Rattle.meters.proofs.Advances.{litres_at, carried_to, carried_on}
use Rattle.meters.proofs.add_advance.Given as goal

abbrev pub invariant-loop-i : goal.invariant-loop-i
invariant-loop-i l = Adding l.initial.spans l.spans l.initial.i l.to l.s l.i (litres_at l.days.from.0 (carried_on l.a)) × (l.before ≡ carried_to l.a (l.days.from.0 + l.i))

abbrev pub decreases-loop-i : goal.decreases-loop-i
decreases-loop-i l = l.to - l.i
