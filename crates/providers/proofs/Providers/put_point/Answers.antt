-- `Providers::put_point` meets its contract. Assumes nothing.
use mathlib.Core.Path.{refl, sym, ◌∙◌}
use native.Mathlib.Omega.{arith}
use Rattle.rules.specs.File.{bands_from, point_at}
use Rattle.rules.proofs.Exits.{handed_on}
use Rattle.rules.proofs.Positions.{point_forward}
use Rattle.records.proofs.Skip.{transfers_are, meters_end, meters_small}
use Rattle.records.proofs.Walk.{year_from_lem, year_to_lem}
use Rattle.providers.proofs.Points.{point_sound, point_put}
use Rattle.providers.proofs.Providers.put_point.Goals as goal

pub point_lists-lists-requires : goal.point_lists-lists-requires
point_lists-lists-requires c = omega (arith, c.requires.1, point_forward c.args.c.at (point_at c.args.file.now.bytes.now c.args.c.at))

pub charged_days-days-requires : goal.charged_days-days-requires
charged_days-days-requires c =
    let file = c.args.file.now in
    let good = file.good in
    (year_from_lem _ good {start = bands_from _} (file.header, refl), year_to_lem _ good {start = bands_from _} (file.header, refl))

pub put_transfers-requires : goal.put_transfers-requires
put_transfers-requires c = point_sound c.point_lists-lists.ensures c.charged_days-days.ensures c.requires.0 c.requires.1

pub returns-in_err-put_transfers : goal.returns-in_err-put_transfers
returns-in_err-put_transfers c =
    let lists = c.point_lists-lists.ensures in
    let same = point_put lists c.charged_days-days.ensures c.args.self.now.list.items in
    let over = c.in_err-put_transfers.ensures _ (sym (transfers_are lists)) in
    rw (handed_on c.from_residual.ensures.1) (record { put = λ tariff y. (over.0, rw (sym (same tariff y)) over.1); ends = tt })

pub end-requires : goal.end-requires
end-requires c = meters_small c.point_lists-lists.ensures c.requires.1

pub returns : goal.returns
returns c =
    let lists = c.point_lists-lists.ensures in
    record {
      put = λ tariff y. c.in_ok-put_transfers.ensures _ (sym (transfers_are lists)) ∙ point_put lists c.charged_days-days.ensures c.args.self.now.list.items tariff y;
      ends = c.end.ensures ∙ meters_end lists;
    }
