-- A point's providers, put into a list by the runs of its transfers. Assumes nothing.
use Prim.Native.Nat.{ℕ, ◌+◌, ◌-◌, ◌^◌, ◌≤◌, ◌<◌}
use mathlib.Core.Path.{◌≡◌, refl, ap, ap₂, sym, ◌∙◌, subst}
use mathlib.Core.List.{List, [], ◌∷◌}
use native.Mathlib.Omega.{arith}
use lib.ListN.{length}
use Rattle.rules.specs.declared.Service.{Service}
use Rattle.rules.specs.declared.Service.TheVariants.{Water}
use Rattle.rules.specs.declared.Header.{Header}
use Rattle.rules.specs.declared.PointHead.{PointHead}
use Rattle.rules.specs.declared.Transfer.{Transfer}
use Rattle.rules.specs.File.{Tariff, Supply, Point, records, header_at, bands_from, bands, after_bands, points as points_from, point_at, transfers, after_point, decode, decode_in}
use Rattle.rules.specs.Charges.{charged_from, charged_count}
use Rattle.rules.specs.Settlement.{insert_days, providers_and, providers_of}
use Rattle.rules.specs.Good.{FirstBy, GoodPoint, Good}
use Rattle.records.specs.declared.PointLists.{PointLists}
use Rattle.records.specs.Lists.{ListsAt}
use Rattle.records.proofs.Skip.{transfers_are, transfers_small}
use Rattle.records.proofs.Walk.{PointsLeft, points_one, points_next, first_left, first_points}
use Rattle.charged.specs.declared.Charged.{Charged}
use Rattle.charged.specs.Charged.{ChargedOf}
use Rattle.providers.specs.Listed.{point_providers}
use Rattle.providers.specs.Runs.{SoundTransfers}
use Rattle.providers.proofs.Days.{days_longer}

pub first_by_later : {day later : ℕ} (ts : List Transfer) → day ≤ later → FirstBy day ts → FirstBy later ts
first_by_later [] l h = absurd h
first_by_later (t ∷ ts) l h = omega arith

-- the first charged day is the connection day or comes after it
pub connected_first : (tariff : Tariff) (supply : Supply) → supply.connected ≤ charged_from tariff supply
unfolding charged_from
connected_first tariff supply = omega arith

-- A POINT of an accepted file, by where its lists stand
module _ {b : List ℕ} {at : ℕ} {r : PointLists} (l : ListsAt b at r) where
  -- its transfers give the provider of each day from a day on that is not before its connection
  pub transfers_sound : {service : Service} {day : ℕ} → GoodPoint service (point_at b at) → after_point at (point_at b at) < 2 ^ 32 → (point_at b at).supply.connected ≤ day →
      SoundTransfers b r.transfers.count r.transfers.first.at day
  transfers_sound g small h =
      let same = sym (transfers_are l) in
      record {
        ascend = rw same at g.transfer_days;
        first = first_by_later (transfers b r.transfers.count r.transfers.first.at) h (rw same at g.first_transfer);
        ends = transfers_small l small;
      }

  -- and its charged days
  module _ {year : ℕ} {days : Charged} (charged : ChargedOf year r.head.connected r.head.disconnected days) where
    abbrev point : Point
    point = point_at b at

    -- in a file of that year
    charged_days : (tariff : Tariff) → tariff.year ≡ year → (days.from.0 ≡ charged_from tariff point.supply) × (days.count.0 ≡ charged_count tariff point.supply)
    unfolding point_at
    charged_days tariff y = charged.days tariff point.supply y (ap (λ (h : PointHead). h.connected) (sym l.point)) (ap (λ (h : PointHead). h.disconnected) (sym l.point))

    connected_by : point.supply.connected ≤ days.from.0
    connected_by =
        let tariff : Tariff = record { service = Water; year = year; property_price = 0; roads_price = 0; capacity_rate = 0; standard_rate = 0; bands = [] } in
        omega (arith, (charged_days tariff refl).0, connected_first tariff point.supply)

    pub point_sound : {service : Service} → GoodPoint service point → after_point at point < 2 ^ 32 → SoundTransfers b r.transfers.count r.transfers.first.at days.from.0
    point_sound g small = transfers_sound g small connected_by

    -- the list with the providers of those days
    pub point_put : (before : List ℕ) (tariff : Tariff) → tariff.year ≡ year → insert_days point days.from.0 days.count.0 before ≡ point_providers tariff point before
    point_put before tariff y = let d = charged_days tariff y in ap₂ (λ from n. insert_days point from n before) d.0 d.1

-- THE WHOLE FILE: the list so far, with the providers of the points that are left, has those of all
pub points_longer : (tariff : Tariff) (ps : List ℕ) (points : List Point) → length ps ≤ length (providers_and tariff ps points)
unfolding providers_and insert_days
points_longer tariff ps [] = omega arith
points_longer tariff ps (point ∷ points) =
    let n = charged_count tariff point.supply in
    let from = charged_from tariff point.supply in
    omega (arith, days_longer point from 0 n ps, ap (λ k. length (insert_days point from k ps)) {x = n + 0} {y = n} (omega arith), points_longer tariff (point_providers tariff point ps) points)

module _ (b : List ℕ) where
  pub record Listing (year left at : ℕ) (list : List ℕ) : Type 0 where
    pub is : (decode b).tariff.year ≡ year
    pub points : PointsLeft b left at
    pub whole : providers_and (decode b).tariff list (points_from b left at) ≡ providers_of (decode b).tariff (decode b).points

  pub listing_start : Good b → {head : Header} {at : ℕ} → head ≡ header_at b → at ≡ after_bands (bands_from b) (bands b head.bands (bands_from b)) → Listing head.year head.points at []
  unfolding providers_of decode_in
  listing_start g e f =
      record {
        is = ap (λ (h : Header). h.year) (sym e);
        points = first_left b g e f;
        whole = ap (providers_and (decode b).tariff []) (first_points b g e f);
      }

  module _ {year left at : ℕ} {list : List ℕ} (s : Listing year left at list) where
    module _ (h : 0 < left) where
      -- the next point and those behind it
      one : providers_and (decode b).tariff (point_providers (decode b).tariff (point_at b at) list) (points_from b (left - 1) (after_point at (point_at b at))) ≡ providers_of (decode b).tariff (decode b).points
      unfolding providers_and
      one = sym (ap (providers_and (decode b).tariff list) (points_one b left at h)) ∙ s.whole

      pub listing_next : {rest next : ℕ} {out : List ℕ} → rest + 1 ≡ left → out ≡ point_providers (decode b).tariff (point_at b at) list → next ≡ after_point at (point_at b at) → Listing year rest next out
      listing_next {rest} less put ends =
          let fewer : rest ≡ left - 1 = omega arith in
          rw fewer
          record {
            is = s.is;
            points = subst (PointsLeft b (left - 1)) (sym ends) (points_next b s.points h);
            whole = ap₂ (λ ps n. providers_and (decode b).tariff ps (points_from b (left - 1) n)) put ends ∙ one;
          }

      -- where one has no room, neither have all
      pub listing_over : 64 < length (point_providers (decode b).tariff (point_at b at) list) → 64 < length (providers_of (decode b).tariff (decode b).points)
      listing_over over = omega (arith, ap length one, points_longer (decode b).tariff (point_providers (decode b).tariff (point_at b at) list) (points_from b (left - 1) (after_point at (point_at b at))))

    pub listing_done : left ≤ 0 → list ≡ providers_of (decode b).tariff (decode b).points
    unfolding providers_and records
    listing_done h =
        let none : left ≡ 0 = omega arith in
        sym (ap (λ n. providers_and (decode b).tariff list (points_from b n at)) none) ∙ s.whole
