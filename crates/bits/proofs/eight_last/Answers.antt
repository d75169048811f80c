-- `from_be_bytes` of eight bytes is the field of their bits.
use native.Mathlib.Omega.{arith}
use Rattle.std.proofs.lemmas.Grind.{common_steps}
use Rattle.bits.proofs.Fields.{field_eight}
use Rattle.bits.proofs.eight_last.Goals as goal

pub returns : goal.returns
returns c = field_eight _ c.type_inv.file _ (grind (arith, common_steps))
