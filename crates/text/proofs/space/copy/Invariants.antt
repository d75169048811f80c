-- The text's bytes before the next one stand in the space.
use Rattle.std.proofs.Common.{◌≡◌, ◌≤◌, length, take}
use Rattle.text.proofs.space.copy.Given as goal

abbrev pub invariant-loop-place : goal.invariant-loop-place
invariant-loop-place l = (take l.place l.space ≡ take l.place l.text) × (l.place ≤ length l.text)
