-- `meters::add_advance` meets its contract: the spans up to s have what the days before entry i carry (`Adding`). Assumes nothing.
use native.Mathlib.Omega.{arith}
use mathlib.Core.Path.{refl}
use Rattle.spans.specs.Spans.{span_in}
use Rattle.spans.proofs.Days.{adding_none, adding_asks, adding_room, adding_more, adding_done, kept_all, reached_kept}
use Rattle.meters.proofs.Advances.{carried_later, piece_is, entries_room, entries_grown}
use Rattle.meters.proofs.add_advance.Goals as goal

pub returns-then-to-i-clause-added : goal.returns-then-to-i-clause-added
returns-then-to-i-clause-added c =
    entries_grown _ c.args.a c.entry-i.ensures c.entry-to.ensures c.requires.cut (adding_done (adding_none _ _ (reached_kept kept_all c.requires.reached_2 (omega arith))) c.if-to-i.true)

pub loop-i-init : goal.loop-i-init
loop-i-init c = (adding_none _ _ (reached_kept kept_all c.requires.reached_2 (omega arith)), c.carried_before-before.ensures)

pub span_with-s-requires : goal.span_with-s-requires
span_with-s-requires c = adding_asks c.loop-i.invariant.0 c.requires.cut c.loop-i-test.true (omega arith)

pub overflow_sub-up : goal.overflow_sub-up
unfolding span_in
overflow_sub-up c = carried_later c.args.a c.loop-i.invariant.1 c.carried_before-up.ensures (omega arith)

pub add_litres-requires : goal.add_litres-requires
unfolding span_in
add_litres-requires c =
    let piece = piece_is c.args.a _ _ _ (omega arith) (omega arith) refl c.carried_before-up.ensures c.loop-i.invariant.1 in
    adding_room c.loop-i.invariant.0 c.requires.cut c.loop-i-test.true c.span_with-s.ensures c.min-stop.ensures piece (entries_room _ c.args.a c.entry-i.ensures c.entry-to.ensures c.requires.cut c.requires.room)

pub loop-i-preserved : goal.loop-i-preserved
unfolding span_in
loop-i-preserved c =
    let piece = piece_is c.args.a _ _ _ (omega arith) (omega arith) refl c.carried_before-up.ensures c.loop-i.invariant.1 in
    (adding_more c.loop-i.invariant.0 c.requires.cut c.loop-i-test.true c.span_with-s.ensures c.min-stop.ensures piece c.add_litres.ensures, c.carried_before-up.ensures)

pub returns-clause-added : goal.returns-clause-added
returns-clause-added c = entries_grown _ c.args.a c.entry-i.ensures c.entry-to.ensures c.requires.cut (adding_done c.loop-i.invariant.0 c.loop-i-test.false)
