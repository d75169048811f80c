-- The field is the eight bytes that hold it, cut at both ends.
use Rattle.std.proofs.Common.{refl, arith}
use Rattle.bits.proofs.Fields.{field_none, field_of_eight}
use Rattle.bits.proofs.Cursor.take.Goals as goal

pub returns-then-width-eq0 : goal.returns-then-width-eq0
returns-then-width-eq0 c = record { is = field_none _ _ c.if-width-eq0.true; after = omega arith }

pub returns : goal.returns
returns c = record { is = field_of_eight c.args.file.now c.args.self.at c.args.width c.requires.0 c.eight_bytes.ensures; after = refl }
