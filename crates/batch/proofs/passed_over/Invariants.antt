-- So many bytes were lost.
use Rattle.std.proofs.Common.{min}
use Rattle.batch.specs.Batch.{Loses}
use Rattle.batch.proofs.passed_over.Given as goal

abbrev pub invariant-loop-done : goal.invariant-loop-done
invariant-loop-done g l = Loses (g.R.Read.remaining l.initial.input) (g.R.Read.remaining l.input) (min l.done l.count)
