-- The bytes joined the least significant first and turned round are the field of their bits.
use Rattle.bits.proofs.Fields.{field_eight, turned}
use Rattle.bits.proofs.eight_there.Goals as goal

pub returns : goal.returns
returns c =
    let here = c.type_inv.file in
    field_eight _ here _ (turned (here _) (here _) (here _) (here _) (here _) (here _) (here _) (here _) c.from_le_bytes.ensures c.swap_bytes.ensures)
