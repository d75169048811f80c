-- `records::after_lists` meets its contract: the meters begin where the conditions end. Assumes nothing.
use mathlib.Core.Path.{◌∙◌}
use native.Mathlib.Omega.{arith}
use Rattle.records.proofs.Skip.{lists_from, lists_small}
use Rattle.records.proofs.after_lists.Goals as goal

pub end-first-requires : goal.end-first-requires
end-first-requires c = omega (arith, lists_small c.args.file.now c.args.c.at c.args.head c.requires)

pub after_meters-requires : goal.after_meters-requires
after_meters-requires c = rw c.end-first.ensures (omega (arith, c.requires, lists_from c.args.file.now c.args.c.at c.args.head))

pub returns : goal.returns
returns c = c.after_meters.ensures ∙ rw c.end-first.ensures (lists_from c.args.file.now c.args.c.at c.args.head)
