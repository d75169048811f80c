-- A point's lists: meters are passed over one by one, and each list is the point's and ends where it does or before. Assumes nothing.
use Prim.Native.Nat.{ℕ, suc, ◌+◌, ◌*◌, ◌^◌, ◌≤◌, ◌<◌}
use mathlib.Core.Path.{◌≡◌, sym, ap, ap₂, ◌∙◌}
use mathlib.Core.List.{List}
use native.Mathlib.Omega.{arith}
use Rattle.bits.specs.Took.{Took}
use Rattle.rules.specs.declared.PointHead.{PointHead}
use Rattle.rules.specs.File.{records, after, read_bits, read_at, meter_head_at, meter_at, point_at, condition_bits, condition_at, meters, conditions, transfers, transfers_from, reads_from, after_meter, after_meters, after_conditions, after_transfers, after_point}
use Rattle.records.specs.declared.PointLists.{PointLists}
use Rattle.records.specs.Lists.{ListsAt, after_lists}
use Rattle.rules.proofs.Positions.{forward, meter_forward, records_wide}

module _ (b : List ℕ) where
  pub meters_ahead : (n at : ℕ) → at ≤ after_meters at (meters b n at)
  meters_ahead n at = forward meter_forward at (meters b n at)

  meters_one : (n at : ℕ) {n₁ : ℕ} → n₁ ≡ suc n →
      let next = after_meter at (meter_at b at) in after_meters next (meters b n next) ≡ after_meters at (meters b n₁ at)
  unfolding records after
  meters_one n at e = sym (ap (λ k. after_meters at (meters b k at)) e)

  -- the meters that are left at a position end where all do
  pub record MetersLeft (left at end : ℕ) : Type 0 where
    pub rest : after_meters at (meters b left at) ≡ end
    pub small : end < 2 ^ 32

  module _ {left at end : ℕ} (m : MetersLeft left at end) where
    pub meter_here : at < 2 ^ 32
    meter_here = omega (arith, m.rest, m.small, meters_ahead left at)

    pub meters_done : left ≤ 0 → at ≡ end
    unfolding records after
    meters_done h = let e : left ≡ 0 = omega arith in sym (ap (λ k. after_meters at (meters b k at)) e) ∙ m.rest

    -- past a meter and its reads, the count of which is its last field
    module _ {count next : ℕ} (fewer : ℕ) (h : left ≡ suc fewer) (t : Took b (at + 66) 6 count next) where
      past : next + count * read_bits ≡ after_meter at (meter_at b at)
      past =
          ap₂ (λ (p n : ℕ). p + n * read_bits) {v = (meter_head_at b at).reads} (t.after ∙ omega arith) t.is
          ∙ sym (records_wide read_bits (read_at b) (meter_head_at b at).reads (reads_from at))

      pub meter_past : MetersLeft fewer (next + count * read_bits) end
      meter_past = record { rest = ap (λ p. after_meters p (meters b fewer p)) past ∙ (meters_one fewer at h ∙ m.rest); small = m.small }

  -- past a point's conditions
  pub lists_from : (at : ℕ) (head : PointHead) → let from = at + head.conditions * condition_bits in after_meters from (meters b head.meters from) ≡ after_lists b at head
  lists_from at head = ap (λ from. after_meters from (meters b head.meters from)) (sym (records_wide condition_bits (condition_at b) head.conditions at))

  pub lists_small : (at : ℕ) (head : PointHead) → after_lists b at head < 2 ^ 32 → at + head.conditions * condition_bits < 2 ^ 32
  lists_small at head small = omega (arith, lists_from at head, meters_ahead head.meters (at + head.conditions * condition_bits))

-- A POINT'S LISTS, by where they stand
module _ {b : List ℕ} {at : ℕ} {r : PointLists} (l : ListsAt b at r) where
  pub transfers_are : transfers b r.transfers.count r.transfers.first.at ≡ (point_at b at).transfers
  unfolding point_at
  transfers_are = ap₂ (λ n p. transfers b n p) (l.transfer_list.1 ∙ ap (λ (h : PointHead). h.transfers) l.point) l.transfer_list.0

  conditions_from : r.conditions.first.at ≡ after_transfers (transfers_from at) (point_at b at).transfers
  conditions_from = l.condition_list.0 ∙ ap₂ (λ p ts. after_transfers p ts) l.transfer_list.0 transfers_are

  pub conditions_are : conditions b r.conditions.count r.conditions.first.at ≡ (point_at b at).supply.conditions
  unfolding point_at
  conditions_are = ap₂ (λ n p. conditions b n p) (l.condition_list.1 ∙ ap (λ (h : PointHead). h.conditions) l.point) conditions_from

  meters_from : r.meters.first.at ≡ after_conditions (after_transfers (transfers_from at) (point_at b at).transfers) (point_at b at).supply.conditions
  meters_from = l.meter_list.0 ∙ ap₂ (λ p cs. after_conditions p cs) conditions_from conditions_are

  pub meters_are : meters b r.meters.count r.meters.first.at ≡ (point_at b at).supply.meters
  unfolding point_at
  meters_are = ap₂ (λ n p. meters b n p) (l.meter_list.1 ∙ ap (λ (h : PointHead). h.meters) l.point) meters_from

  -- the meters end where the point does, and each list ends no later
  pub meters_end : after_meters r.meters.first.at (meters b r.meters.count r.meters.first.at) ≡ after_point at (point_at b at)
  meters_end = ap₂ (λ p ms. after_meters p ms) meters_from meters_are

  module _ (small : after_point at (point_at b at) < 2 ^ 32) where
    pub meters_small : after_meters r.meters.first.at (meters b r.meters.count r.meters.first.at) < 2 ^ 32
    meters_small = omega (arith, meters_end)

    pub conditions_small : after_conditions r.conditions.first.at (conditions b r.conditions.count r.conditions.first.at) < 2 ^ 32
    conditions_small = omega (arith, meters_small, l.meter_list.0, meters_ahead b r.meters.count r.meters.first.at)

    pub transfers_small : after_transfers r.transfers.first.at (transfers b r.transfers.count r.transfers.first.at) < 2 ^ 32
    transfers_small =
        omega (arith, conditions_small, l.condition_list.0, records_wide condition_bits (condition_at b) r.conditions.count r.conditions.first.at)
