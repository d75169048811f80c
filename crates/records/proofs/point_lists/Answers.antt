-- `records::point_lists` meets its contract: each list is as wide as its records are together, and there are few of them, as their counts have few
-- bits. Assumes nothing.
use Prim.Native.Nat.{◌+◌}
use mathlib.Core.Path.{refl, sym, ap, ◌∙◌}
use native.Mathlib.Omega.{arith}
use Rattle.rules.specs.declared.PointHead.{PointHead}
use Rattle.rules.specs.File.{transfer_bits, transfer_at, condition_bits, condition_at}
use Rattle.rules.proofs.Fields.{field_lt}
use Rattle.rules.proofs.Positions.{records_wide}
use Rattle.records.proofs.point_lists.Goals as goal

pub end-requires : goal.end-requires
end-requires c =
    let taken = c.point-taken.ensures in
    omega (arith, c.requires, taken.1, ap (λ (h : PointHead). h.transfers) taken.0, field_lt c.args.file.now (c.args.c.at + 64) 5)

pub end-requires-2 : goal.end-requires-2
end-requires-2 c =
    let taken = c.point-taken.ensures in
    omega (
      arith,
      c.requires,
      taken.1,
      c.end.ensures,
      ap (λ (h : PointHead). h.transfers) taken.0,
      field_lt c.args.file.now (c.args.c.at + 64) 5,
      ap (λ (h : PointHead). h.conditions) taken.0,
      field_lt c.args.file.now (c.args.c.at + 69) 6,
    )

pub returns : goal.returns
returns c =
    let taken = c.point-taken.ensures in
    let file = c.args.file.now in
    record {
      point = taken.0;
      transfer_list = (taken.1, refl);
      condition_list = (c.end.ensures ∙ sym (records_wide transfer_bits (transfer_at file) _ _), refl);
      meter_list = (c.end-2.ensures ∙ sym (records_wide condition_bits (condition_at file) _ _), refl);
    }
