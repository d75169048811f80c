-- `meters::add_meter` meets its contract: its litres, and then its figures. Assumes nothing.
use native.Mathlib.Omega.{arith}
use Rattle.rules.specs.File.{meter_at}
use Rattle.rules.proofs.Positions.{meter_forward}
use Rattle.spans.proofs.Days.{cut_kept}
use Rattle.meters.proofs.Adding.{weights_fit, reads_room, figures_room, meter_added}
use Rattle.meters.proofs.add_meter.Goals as goal

pub meter-taken-requires : goal.meter-taken-requires
meter-taken-requires g c = let s = c.args in omega (arith, c.requires.at_bound, meter_forward s.c.at (meter_at s.file.now s.c.at))

pub figures_of-each-requires : goal.figures_of-each-requires
figures_of-each-requires g c = weights_fit _ _ c.meter-taken.ensures _ c.serving-band.ensures c.requires.good_bands.priced c.requires.good_meter.0

pub add_reads-next-requires-clause-room : goal.add_reads-next-requires-clause-room
add_reads-next-requires-clause-room g c = reads_room _ _ c.meter-taken.ensures _ c.serving-band.ensures c.figures_of-each.ensures _ _ c.requires.room_with

pub add_during-more-requires-clause-cut : goal.add_during-more-requires-clause-cut
add_during-more-requires-clause-cut g c = cut_kept c.add_reads-next.ensures.grown.kept c.requires.good_meter.1

pub add_during-more-requires-clause-room_with : goal.add_during-more-requires-clause-room_with
add_during-more-requires-clause-room_with g c = figures_room _ _ c.meter-taken.ensures _ c.serving-band.ensures c.figures_of-each.ensures _ _ c.add_reads-next.ensures.grown c.requires.room_with

pub returns-clause-added : goal.returns-clause-added
returns-clause-added g c = meter_added _ _ c.meter-taken.ensures _ c.serving-band.ensures c.figures_of-each.ensures _ _ c.add_reads-next.ensures.grown c.add_during-more.ensures
