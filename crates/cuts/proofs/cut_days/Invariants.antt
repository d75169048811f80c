use Prim.Native.Nat.{ℕ, ◌-◌}
use Rattle.rules.specs.declared.Condition.{Condition}
use Rattle.rules.specs.declared.Transfer.{Transfer}
use Rattle.cuts.specs.Cuts.{Owns, Held}
use Rattle.cuts.proofs.Cutting.{Cutting}
use Rattle.cuts.proofs.cut_days.Given as goal

abbrev pub invariant-loop-i : goal.invariant-loop-i
invariant-loop-i l = (all : ℕ → Transfer) (on : ℕ → Condition) → Owns l.file l.days.from.0 l.days.count.0 all 0 l.initial.own → Held l.file l.days.from.0 l.days.count.0 on 0 l.initial.held → Cutting l.file l.days.from.0 l.days.count.0 all on l.spans.items l.i l.own l.held

abbrev pub decreases-loop-i : goal.decreases-loop-i
decreases-loop-i l = l.days.count.0 - l.i
