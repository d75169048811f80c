-- `meters::add_during` meets its contract: a meter on all days is added to what every day has, and any other to the spans. Assumes nothing.
use Rattle.meters.proofs.Adding.{every_fits, figures_every, figures_ask, figures_put}
use Rattle.meters.proofs.add_during.Goals as goal

pub add-requires : goal.add-requires
add-requires c = every_fits _ _ _ _ _ c.requires.cut c.entry-from.ensures c.entry-to.ensures (c.on_all_days.ensures.0 c.if-on_all_days.true) c.requires.room_with

pub returns-then-on_all_days : goal.returns-then-on_all_days
returns-then-on_all_days c = figures_every _ _ _ _ _ c.requires.cut c.entry-from.ensures c.entry-to.ensures (c.on_all_days.ensures.0 c.if-on_all_days.true) c.add.ensures

pub add_figures-requires-clause-room : goal.add_figures-requires-clause-room
add_figures-requires-clause-room c = figures_ask _ _ _ _ _ c.requires.cut c.entry-from.ensures c.entry-to.ensures c.requires.room_with

pub returns : goal.returns
returns c = figures_put _ _ _ _ _ c.requires.cut c.entry-from.ensures c.entry-to.ensures c.add_figures.ensures
