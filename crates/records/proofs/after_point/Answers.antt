-- `records::after_point` meets its contract: a point ends where its meters do. Assumes nothing.
use mathlib.Core.Path.{◌∙◌}
use native.Mathlib.Omega.{arith}
use Rattle.rules.specs.File.{point_at}
use Rattle.rules.proofs.Positions.{point_forward}
use Rattle.records.proofs.Skip.{meters_end, meters_small}
use Rattle.records.proofs.after_point.Goals as goal

pub point_lists-lists-requires : goal.point_lists-lists-requires
point_lists-lists-requires c = omega (arith, c.requires, point_forward c.args.c.at (point_at c.args.file.now c.args.c.at))

pub end-requires : goal.end-requires
end-requires c = meters_small c.point_lists-lists.ensures c.requires

pub returns : goal.returns
returns c = c.end.ensures ∙ meters_end c.point_lists-lists.ensures
