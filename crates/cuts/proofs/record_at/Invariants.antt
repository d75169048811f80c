use Rattle.cuts.proofs.Walks.{Passed}
use Rattle.cuts.proofs.record_at.Given as goal

abbrev pub invariant-loop-w : goal.invariant-loop-w
invariant-loop-w g l = Passed (g.R.Dated.here l.file) g.R.Dated.wide g.R.Dated.day_of g.R.Dated.seen l.days.from.0 l.days.count.0 l.i l.initial.w l.w

abbrev pub decreases-loop-w : goal.decreases-loop-w
decreases-loop-w g l = l.w.left
