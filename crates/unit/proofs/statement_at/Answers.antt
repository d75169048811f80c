-- `unit::statement_at` meets its contract: the answer is among the points that are left. Assumes nothing.
use native.Mathlib.Omega.{arith}
use Rattle.records.proofs.Walk.{point_within}
use Rattle.unit.proofs.Places.{past_last, place_start, place_next, place_point, place_found}
use Rattle.unit.proofs.statement_at.Goals as goal

pub returns-then-file-place : goal.returns-then-file-place
returns-then-file-place c = past_last c.args.file.now c.args.place c.if-file-place.true

pub loop-init : goal.loop-init
loop-init c = place_start c.args.file.now c.args.place c.first_point-next.ensures

pub after_point-next-requires : goal.after_point-next-requires
after_point-next-requires c = point_within _ c.loop.invariant.left (omega (arith, c.loop.invariant.to))

pub loop-preserved : goal.loop-preserved
loop-preserved c = place_next c.args.file.now c.args.place c.loop.invariant c.if-file-place.false c.loop-test.true c.after_point-next.ensures

pub point_statement-requires : goal.point_statement-requires
point_statement-requires c = place_point c.args.file.now c.args.place c.loop.invariant c.if-file-place.false

pub returns : goal.returns
returns c = place_found c.args.file.now c.args.place c.loop.invariant c.if-file-place.false c.loop-test.false c.point_statement.ensures
