-- `cuts::cut_days` meets its contract: the days before entry i are cut into the spans, and those from there on go by the records ahead (`Cutting`).
-- Assumes nothing.
use native.Mathlib.Omega.{arith}
use Rattle.cuts.proofs.Cutting.{cutting_begin, cutting_room, cutting_turn, cutting_end, cut_as}
use Rattle.cuts.proofs.Walks.{owner_is}
use Rattle.cuts.proofs.cut_days.Goals as goal

pub loop-i-init : goal.loop-i-init
loop-i-init c = λ all on o h. cutting_begin _ _ _ _ _ c.clear.ensures o h (omega (arith, c.first_owner-own.ensures.1, c.no_condition-held.ensures.1, c.requires.sound_transfers.1, c.requires.sound_conditions.1))

pub record_at-own-requires : goal.record_at-own-requires
record_at-own-requires c = ((_, (c.loop-i.invariant _ _ c.first_owner-own.ensures.0 c.no_condition-held.ensures.0).owns), c.loop-i-test.true)

pub record_at-held-requires : goal.record_at-held-requires
record_at-held-requires c = ((_, (c.loop-i.invariant _ _ c.first_owner-own.ensures.0 c.no_condition-held.ensures.0).holds), c.loop-i-test.true)

pub add_span-requires : goal.add_span-requires
add_span-requires c = let u = c.loop-i.invariant _ _ c.first_owner-own.ensures.0 c.no_condition-held.ensures.0 in cutting_room _ _ _ _ _ c.record_at-own.result c.record_at-held.result u (c.record_at-own.ensures.now.0 _ u.owns) (c.record_at-held.ensures.now.0 _ u.holds) c.record_at-own.ensures.now.1 c.record_at-held.ensures.now.1 c.record_at-own.ensures.fewer c.record_at-held.ensures.fewer

pub loop-i-preserved : goal.loop-i-preserved
loop-i-preserved c = λ all on o h. let u = c.loop-i.invariant all on o h in cutting_turn _ _ _ _ _ c.record_at-own.result c.record_at-held.result u (c.record_at-own.ensures.now.0 all u.owns) (c.record_at-held.ensures.now.0 on u.holds) c.record_at-own.ensures.now.1 c.record_at-held.ensures.now.1 c.record_at-own.ensures.fewer c.record_at-held.ensures.fewer c.min-end.ensures c.add_span.ensures

pub returns : goal.returns
returns c = cut_as (λ i. owner_is _ _ _ _ i) (cutting_end _ _ _ _ _ (c.loop-i.invariant _ _ c.first_owner-own.ensures.0 c.no_condition-held.ensures.0) c.loop-i-test.false)
