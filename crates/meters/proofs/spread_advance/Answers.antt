-- `meters::spread_advance` meets its contract. Assumes nothing.
use Rattle.meters.proofs.Advances.{whole_room, whole_added}
use Rattle.meters.proofs.spread_advance.Goals as goal

pub add_litres-requires : goal.add_litres-requires
add_litres-requires c = whole_room _ c.args.a c.requires.cut c.requires.reached_2 (c.holds_all.ensures.0 c.if-holds_all.true) c.requires.room

pub returns-then-holds_all-clause-added : goal.returns-then-holds_all-clause-added
returns-then-holds_all-clause-added c = whole_added _ c.args.a c.requires.cut c.requires.reached_2 (c.holds_all.ensures.0 c.if-holds_all.true) c.add_litres.ensures
