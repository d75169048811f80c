-- The last number, put before the place that comes next, was brought down to there.
use Rattle.std.proofs.Common.{◌+◌, ◌-◌, ◌≤◌}
use lib.ListN.{set}
use Rattle.providers.proofs.Down.{Down}
use Rattle.providers.proofs.last_to.Given as goal

abbrev pub invariant-loop-place : goal.invariant-loop-place
invariant-loop-place l = Down l.initial.numbers (set l.numbers (l.place - 1) l.last) (l.place - 1) × (l.at + 1 ≤ l.place)
