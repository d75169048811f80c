-- `spans::add_figures` meets its contract: what the days before entry i have is added to the spans up to s (`Adding`). Assumes nothing.
use Rattle.spans.specs.Spans.{span_in}
use Rattle.spans.proofs.Days.{adding_none, adding_asks, adding_room, adding_more, adding_done, reached_first}
use Rattle.rules.proofs.Sums.{days_each}
use Rattle.spans.proofs.add_figures.Goals as goal

pub loop-i-init : goal.loop-i-init
loop-i-init c = adding_none _ _ (reached_first _ _ _)

pub span_with-s-requires : goal.span_with-s-requires
span_with-s-requires c = adding_asks c.loop-i.invariant c.requires.cut.1 c.loop-i-test.true c.requires.cut.2

pub add_each-requires : goal.add_each-requires
unfolding span_in
add_each-requires c = adding_room c.loop-i.invariant c.requires.cut.1 c.loop-i-test.true c.span_with-s.ensures c.min-stop.ensures (λ q. days_each _ _ _) c.requires.room

pub loop-i-preserved : goal.loop-i-preserved
unfolding span_in
loop-i-preserved c = adding_more c.loop-i.invariant c.requires.cut.1 c.loop-i-test.true c.span_with-s.ensures c.min-stop.ensures (λ q. days_each _ _ _) c.add_each.ensures

pub returns : goal.returns
returns c = adding_done c.loop-i.invariant c.loop-i-test.false
