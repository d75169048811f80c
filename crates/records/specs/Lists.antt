-- A point's lists, by where they stand.
use Rattle.std.specs.Prelude.{ℕ, ◌≡◌, List}
use Rattle.rules.specs.declared.PointHead.{PointHead}
use Rattle.rules.specs.File.{point_head_at, transfers_from, transfers, after_transfers, conditions, after_conditions, meters, after_meters}
use Rattle.records.specs.declared.PointLists.{PointLists}

-- a point at a position: its head, and each of its lists, which begins where the one before it ends
pub record ListsAt (file : List ℕ) (at : ℕ) (r : PointLists) : Type 0 where
  pub point : r.head ≡ point_head_at file at
  pub transfer_list : (r.transfers.first.at ≡ transfers_from at) × (r.transfers.count ≡ r.head.transfers)
  pub condition_list : (r.conditions.first.at ≡ after_transfers r.transfers.first.at (transfers file r.transfers.count r.transfers.first.at)) × (r.conditions.count ≡ r.head.conditions)
  pub meter_list : (r.meters.first.at ≡ after_conditions r.conditions.first.at (conditions file r.conditions.count r.conditions.first.at)) × (r.meters.count ≡ r.head.meters)

-- the position after the conditions and the meters of a point, of where the conditions begin
abbrev pub after_lists : List ℕ → ℕ → PointHead → ℕ
after_lists file at head =
    let meters_from = after_conditions at (conditions file head.conditions at) in
    after_meters meters_from (meters file head.meters meters_from)
