-- `providers::provider_list` meets its contract: the list so far, with the providers of the points that are left, has those of all. Assumes nothing.
use Prim.Native.Nat.{◌-◌, ◌<◌}
use mathlib.Core.Path.{ap}
use native.Mathlib.Nat.{sub-zero}
use Rattle.rules.specs.Numbered.{number_of}
use native.Mathlib.Omega.{arith}
use borrow.Author.Tests.{lt-ltb}
use Rattle.rules.proofs.Exits.{handed_on}
use Rattle.records.proofs.Walk.{point_here, point_within}
use Rattle.providers.proofs.Points.{listing_start, listing_next, listing_over, listing_done}
use Rattle.providers.proofs.provider_list.Goals as goal

pub loop-init : goal.loop-init
loop-init c = rw (c.none-providers.ensures, sub-zero) (listing_start _ c.args.file.good c.args.file.header c.first_point-next.ensures)

pub put_point-requires : goal.put_point-requires
put_point-requires c = let points = c.loop.invariant.points in (point_here _ points (omega arith), point_within _ points (omega arith))

pub returns-in_err-next-clause-number : goal.returns-in_err-next-clause-number
returns-in_err-next-clause-number c =
    let some : 0 < c.args.file.head.points - c.loop.counter = omega arith in
    let over = c.in_err-next.ensures.put _ c.loop.invariant.is in
    rw (handed_on c.from_residual.ensures.1, lt-ltb _ _ (listing_over _ c.loop.invariant some over.1)) (ap number_of over.0)

pub loop-preserved : goal.loop-preserved
loop-preserved c = listing_next _ c.loop.invariant (omega arith) (omega arith) (c.in_ok-next.ensures.put _ c.loop.invariant.is) c.in_ok-next.ensures.ends

pub invariant_of-result : goal.invariant_of-result
invariant_of-result c = record { providers = record { few = c.loop.providers.few; is = listing_done _ c.loop.invariant (omega arith) } }
