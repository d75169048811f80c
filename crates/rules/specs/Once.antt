-- What an accepted file holds has one proof at most, as a fact that a struct keeps must.
use Rattle.std.specs.Prelude.{ℕ, suc, ◌≤◌, ◌≡◌, List, [], ◌∷◌}
use Rattle.std.specs.Coded.{×_prop, Unit-prop}
use Rattle.std.proofs.Props.{props}
use Rattle.rules.specs.declared.Service.{Service}
use Rattle.rules.specs.declared.Band.{Band}
use Rattle.rules.specs.declared.Transfer.{Transfer}
use Rattle.rules.specs.declared.Condition.{Condition}
use Rattle.rules.specs.declared.MeterHead.{MeterHead}
use Rattle.rules.specs.declared.Read.{Read}
use Rattle.rules.specs.Lists.{All, Ascending}
use Rattle.rules.specs.File.{Meter, Point, meter_head, decode}
use Rattle.rules.specs.Good.{GoodBand, GoodTransfer, GoodCondition, GoodRead, GoodAdvance, GoodAdvances, FirstBy, Undrained, GoodMeter, GoodPoint, Good}

pub all_once : {A : Type 0} {P : A → Type 0} → ((x : A) → IsProp (P x)) → (xs : List A) → IsProp (All P xs)
all_once one [] = Unit-prop
all_once one (x ∷ xs) = ×_prop (one x) (all_once one xs)

le_once : (m n : ℕ) → IsProp (m ≤ n)
le_once m n = Prim.hlevel props

ascending_once : (low : ℕ) (xs : List ℕ) → IsProp (Ascending low xs)
ascending_once low [] = Unit-prop
ascending_once low (x ∷ xs) = ×_prop (le_once low x) (ascending_once (suc x) xs)

first_once : (day : ℕ) (ts : List Transfer) → IsProp (FirstBy day ts)
first_once day [] = Prim.hlevel props
first_once day (t ∷ ts) = Prim.hlevel props

advance_once : (m : MeterHead) (a b : Read) → IsProp (GoodAdvance m a b)
advance_once m a b = Prim.hlevel props

advances_once : (m : MeterHead) (rs : List Read) → IsProp (GoodAdvances m rs)
advances_once m [] = Unit-prop
advances_once m (a ∷ []) = Unit-prop
advances_once m (a ∷ b ∷ rs) = ×_prop (advance_once m a b) (advances_once m (b ∷ rs))

band_once : (b : Band) → IsProp (GoodBand b)
band_once b = Prim.hlevel props

transfer_once : (t : Transfer) → IsProp (GoodTransfer t)
transfer_once t = Prim.hlevel props

condition_once : (c : Condition) → IsProp (GoodCondition c)
condition_once c = Prim.hlevel props

undrained_once : (c : Condition) → IsProp (Undrained c)
undrained_once c = Prim.hlevel props

read_once : (m : MeterHead) (r : Read) → IsProp (GoodRead m r)
read_once m r = Prim.hlevel props

reads_once : (m : MeterHead) (rs : List Read) → IsProp (All (GoodRead m) rs)
reads_once m = all_once (read_once m)

meter_once : (m : Meter) → IsProp (GoodMeter m)
meter_once m = Prim.hlevel (props, reads_once (meter_head m) m.reads, ascending_once, advances_once)

bands_once : (bs : List Band) → IsProp (All GoodBand bs)
bands_once = all_once band_once

transfers_once : (ts : List Transfer) → IsProp (All GoodTransfer ts)
transfers_once = all_once transfer_once

conditions_once : (cs : List Condition) → IsProp (All GoodCondition cs)
conditions_once = all_once condition_once

dry_once : (cs : List Condition) → IsProp (All Undrained cs)
dry_once = all_once undrained_once

meters_once : (ms : List Meter) → IsProp (All GoodMeter ms)
meters_once = all_once meter_once

whole_once : (ms : List Meter) → IsProp (All (λ m. m.returned ≡ 100) ms)
whole_once = all_once (λ m. Prim.hlevel props)

point_once : (service : Service) (p : Point) → IsProp (GoodPoint service p)
point_once service p =
    Prim.hlevel (
      props,
      transfers_once p.transfers,
      ascending_once,
      first_once p.supply.connected p.transfers,
      conditions_once p.supply.conditions,
      meters_once p.supply.meters,
      dry_once p.supply.conditions,
      whole_once p.supply.meters,
    )

points_once : (service : Service) (ps : List Point) → IsProp (All (GoodPoint service) ps)
points_once service = all_once (point_once service)

pub good_once : (b : List ℕ) → IsProp (Good b)
good_once b = Prim.hlevel (props, bands_once (decode b).tariff.bands, ascending_once, points_once (decode b).tariff.service (decode b).points)
