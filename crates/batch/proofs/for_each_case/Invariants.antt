-- The cases so far were answered.
use Rattle.batch.specs.Batch.{AnsweredSo}
use Rattle.batch.proofs.for_each_case.Given as goal

abbrev pub invariant-loop-number : goal.invariant-loop-number
invariant-loop-number g l =
    goal.F-IsAlwaysCallable g l.answer
    × AnsweredSo (goal.F-step g) (g.R.Read.remaining l.initial.input) l.initial.answer l.number (g.R.Read.remaining l.input) l.answer
