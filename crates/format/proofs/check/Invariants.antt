-- What holds at the head of each loop of `check`. `counter` counts the innermost loop's records and `end` is how many it has; `counter-2` and
-- `end-2` are those of the loop around it, and `counter-3` those of the loop around both.
use Prim.Native.Nat.{◌+◌}
use Rattle.format.proofs.Walk.{At, bands_left, points_left, transfers_left, conditions_left, meters_left, reads_left}
use Rattle.format.proofs.check.Given as goal

abbrev pub invariant-bands : goal.invariant-bands
invariant-bands l = At l.file l.c.at (bands_left l.head l.counter l.least)

abbrev pub invariant-transfers : goal.invariant-transfers
invariant-transfers l = At l.file l.c.at (transfers_left l.head l.counter-2 l.lowest l.point.value l.counter l.from l.until)

abbrev pub invariant-conditions : goal.invariant-conditions
invariant-conditions l = At l.file l.c.at (conditions_left l.head l.counter-2 l.lowest l.point.value l.counter l.earliest)

abbrev pub invariant-reads : goal.invariant-reads
invariant-reads l = At l.file l.c.at (reads_left l.dial.meter l.end l.counter l.limits (meters_left l.head l.counter-3 l.lowest l.end-2 (l.counter-2 + 1)))

abbrev pub invariant-meters : goal.invariant-meters
invariant-meters l = At l.file l.c.at (meters_left l.head l.counter-2 l.lowest l.end l.counter)

abbrev pub invariant-points : goal.invariant-points
invariant-points l = At l.file l.c.at (points_left l.head l.counter l.lowest)
