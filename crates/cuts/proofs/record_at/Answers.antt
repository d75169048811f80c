-- `cuts::record_at` meets its contract: the records ahead are taken as long as they have come by entry i. Assumes nothing.
use native.Mathlib.Omega.{arith}
use Rattle.providers.proofs.Runs.{reading_small}
use Rattle.cuts.proofs.Walks.{reading_some, passed_more}
use Rattle.cuts.proofs.record_at.Goals as goal

pub overflow_sub-w : goal.overflow_sub-w
overflow_sub-w g c = omega (arith, reading_some (c.loop-w.invariant.still _ c.requires.0.1) c.loop-w-test.true c.requires.1)

pub in_force-w-requires : goal.in_force-w-requires
in_force-w-requires g c = let u = c.loop-w.invariant.still _ c.requires.0.1 in reading_small u (λ at t. omega arith) (reading_some u c.loop-w-test.true c.requires.1)

pub loop-w-smaller : goal.loop-w-smaller
loop-w-smaller g c = omega (arith, c.in_force-w.ensures.left, reading_some (c.loop-w.invariant.still _ c.requires.0.1) c.loop-w-test.true c.requires.1)

pub loop-w-preserved : goal.loop-w-preserved
loop-w-preserved g c =
    let u = c.loop-w.invariant in
    passed_more u (reading_some (u.still _ c.requires.0.1) c.loop-w-test.true c.requires.1) c.loop-w-test.true c.in_force-w.ensures
