-- What a file that breaks no rule holds: the theorem that the stages after the check cite. Assumes nothing.
use Prim.Native.Nat.{ℕ, ◌+◌, ◌≤◌, ◌<◌}
use Prim.{tt}
use mathlib.Core.Path.{◌≡◌}
use mathlib.Core.Bool.{Bool, true, false}
use mathlib.Core.Option.{Option, none, some}
use mathlib.Core.List.{List, [], ◌∷◌, ◌++◌, map}
use native.Mathlib.Numerals.{add-one}
use native.Mathlib.Omega.{arith}
use native.Mathlib.Decide.{dec_lt}
use lib.ListN.{length}
use lib.Dec.{ltb}
use borrow.Author.Tests.{lt-ltb, le-ltb}
use Rattle.rules.specs.declared.Form.{Form}
use Rattle.rules.specs.declared.Service.{Service}
use Rattle.rules.specs.declared.Service.TheVariants.{Water}
use Rattle.rules.specs.declared.Band.{Band}
use Rattle.rules.specs.declared.PointHead.{PointHead}
use Rattle.rules.specs.declared.Transfer.{Transfer}
use Rattle.rules.specs.declared.Condition.{Condition}
use Rattle.rules.specs.declared.MeterHead.{MeterHead}
use Rattle.rules.specs.declared.Read.{Read}
use Rattle.rules.specs.Lists.{All, Ascending}
use Rattle.rules.specs.Sums.{only}
use Rattle.rules.specs.File.{Meter, Point, meter_head, point_head, file_header, bands_at, after_band, after_bands, transfers_from, after_transfer, after_transfers, after_condition, after_conditions, reads_from, after_read, after_reads, after_meter, after_meters, after_point, after_points, after, decode_in}
use Rattle.rules.specs.Litres.{dial_values}
use Rattle.rules.specs.Refusal.{file_refusal_in}
use Rattle.rules.specs.Lawful.{Record, band, transfer, condition, read, in_turn, meter_records, point_records, width, placed, Above, Turned, rules_for, Keeps, bits_of, SoundIn}
use Rattle.rules.specs.Good.{GoodBand, GoodTransfer, FirstBy, GoodCondition, Undrained, GoodRead, GoodAdvances, GoodMeterHead, GoodMeter, GoodPointHead, GoodPoint, GoodHeader, GoodIn}
use Rattle.rules.proofs.Lists.{all_all, all_apart}
use Rattle.rules.proofs.Placed.{ends, placed_append, bands_end, transfers_end, reads_end, dated, inside, dated_end, inside_end, placed_file}
use Rattle.rules.proofs.Judged.{least_after}
use Rattle.rules.proofs.Breaches.{accepted_sound}

-- where records stand after others, both keep their rules
apart : (bits at from : ℕ) (xs ys : List Record) → ends at xs ≡ from → All (Keeps bits) (placed at (xs ++ ys)) → All (Keeps bits) (placed at xs) × All (Keeps bits) (placed from ys)
apart bits at from xs ys e all = all_apart (Keeps bits) (placed at xs) (placed from ys) (rw (placed_append, e) at all)

-- the keys of a list ascend where the first is allowed and those after it are greater
ascends : {A : Type 0} (key : A → ℕ) (least : ℕ) (x : A) (xs : List A) → least ≤ key x → Ascending (key x + 1) (map key xs) → Ascending least (map key (x ∷ xs))
ascends key least x xs h up = (h, rw add-one at up)

least_above : {A : Type 0} (key : A → ℕ) (before : Option A) (x : A) → Above key before x → least_after key before ≤ key x
least_above key none x h = omega arith
least_above key (some a) x h = omega arith

-- EACH LIST: every record is in its ranges, the keys ascend, and the list ends within the file
record Through {A : Type 0} (P : A → Type 0) (key : A → ℕ) (least : ℕ) (xs : List A) (next end : ℕ) : Type 0 where
  each : All P xs
  ascend : Ascending least (map key xs)
  within : next ≤ end

module _ (bits : ℕ) where
  good_bands : (at : ℕ) (before : Option Band) (bs : List Band) → All (Keeps bits) (placed at (in_turn band before bs)) → at ≤ bits →
      Through GoodBand (λ b. b.size) (least_after (λ b. b.size) before) bs (after_bands at bs) bits
  unfolding in_turn placed width rules_for after
  good_bands at before [] k w = record { each = tt; ascend = tt; within = w }
  good_bands at before (b ∷ bs) k w =
      let range = k.0.1.0 in
      let g : GoodBand b = record { sized = range.0; annual = range.1; allowance = range.2; threshold = range.3; covers = range.4 } in
      let q = good_bands (after_band at) (some b) bs k.1 k.0.0 in
      record { each = (g, q.each); ascend = ascends (λ b. b.size) (least_after (λ b. b.size) before) b bs (least_above (λ b. b.size) before b k.0.1.1.0) q.ascend; within = q.within }

  good_transfers : (connected at : ℕ) (before : Option Transfer) (ts : List Transfer) → All (Keeps bits) (placed at (in_turn (transfer connected) before ts)) → at ≤ bits →
      Through GoodTransfer (λ t. t.day) (least_after (λ t. t.day) before) ts (after_transfers at ts) bits
  unfolding in_turn placed width rules_for after
  good_transfers connected at before [] k w = record { each = tt; ascend = tt; within = w }
  good_transfers connected at before (t ∷ ts) k w =
      let range = k.0.1.0 in
      let g : GoodTransfer t = record { day = omega (arith, range.0); provider = range.1 } in
      let q = good_transfers connected (after_transfer at) (some t) ts k.1 k.0.0 in
      record { each = (g, q.each); ascend = ascends (λ t. t.day) (least_after (λ t. t.day) before) t ts (least_above (λ t. t.day) before t k.0.1.1.0) q.ascend; within = q.within }

  first_by : (connected at : ℕ) (ts : List Transfer) → All (Keeps bits) (placed at (in_turn (transfer connected) none ts)) → 1 ≤ length ts → FirstBy connected ts
  unfolding in_turn placed width rules_for
  first_by connected at [] k one = omega arith
  first_by connected at (t ∷ ts) k one = k.0.1.1.1.0

  good_conditions : (service : Service) (at : ℕ) (before : Option Condition) (cs : List Condition) → All (Keeps bits) (placed at (in_turn (condition service) before cs)) → at ≤ bits →
      Through (λ c. GoodCondition c × (service ≡ Water → Undrained c)) (λ c. c.day) (least_after (λ c. c.day) before) cs (after_conditions at cs) bits
  unfolding in_turn placed width rules_for after
  good_conditions service at before [] k w = record { each = tt; ascend = tt; within = w }
  good_conditions service at before (c ∷ cs) k w =
      let range = k.0.1.0 in
      let g : GoodCondition c = record { day = omega (arith, range.0); discounts = k.0.1.1.1.0; rateable = range.4 } in
      let q = good_conditions service (after_condition at) (some c) cs k.1 k.0.0 in
      record { each = ((g, range.1), q.each); ascend = ascends (λ c. c.day) (least_after (λ c. c.day) before) c cs (least_above (λ c. c.day) before c k.0.1.1.0) q.ascend; within = q.within }

  good_reads : (m : MeterHead) (at : ℕ) (before : Option Read) (rs : List Read) → All (Keeps bits) (placed at (in_turn (read m) before rs)) → at ≤ bits →
      Through (GoodRead m) (λ r. r.day) (least_after (λ r. r.day) before) rs (after_reads at rs) bits
  unfolding in_turn placed width rules_for after
  good_reads m at before [] k w = record { each = tt; ascend = tt; within = w }
  good_reads m at before (r ∷ rs) k w =
      let range = k.0.1.0 in
      let period = k.0.1.1.1.0 in
      let g : GoodRead m r = record { day = omega (arith, range.0); installed = period.0; removed = period.1; small = range.1 } in
      let q = good_reads m (after_read at) (some r) rs k.1 k.0.0 in
      record { each = (g, q.each); ascend = ascends (λ r. r.day) (least_after (λ r. r.day) before) r rs (least_above (λ r. r.day) before r k.0.1.1.0) q.ascend; within = q.within }

-- values a and then b of a dial of D values: rollover is set exactly when the value falls
advance_within : (a b : ℕ) (rollover : Bool) (D : ℕ) → a < D → b < D → rollover ≡ ltb b a → (a ≤ b + only rollover D) × (b + only rollover D < a + D)
unfolding only
advance_within a b rollover D h k e = go (dec_lt b a)
  where
    go : Dec (b < a) → (a ≤ b + only rollover D) × (b + only rollover D < a + D)
    go (yes f) = let s : rollover ≡ true = simp (lt-ltb b a f) at e in rw s (omega arith)
    go (no f) = let s : rollover ≡ false = simp (le-ltb b a (omega arith)) at e in rw s (omega arith)

turned_when : (a r : Read) → Turned (some a) r → r.rollover ≡ ltb r.value a.value
turned_when a r t = go (dec_lt r.value a.value)
  where
    go : Dec (r.value < a.value) → r.rollover ≡ ltb r.value a.value
    go (yes f) = rw (lt-ltb r.value a.value f) (t.0 f)
    go (no f) = let stays : a.value ≤ r.value = omega arith in rw (le-ltb r.value a.value stays) (t.1 stays)

module _ (bits : ℕ) where
  good_advances : (m : MeterHead) (at : ℕ) (before : Option Read) (rs : List Read) → All (Keeps bits) (placed at (in_turn (read m) before rs)) → GoodAdvances m rs
  unfolding in_turn placed width rules_for
  good_advances m at before [] k = tt
  good_advances m at before (a ∷ []) k = tt
  good_advances m at before (a ∷ b ∷ rs) k =
      let own = k.1.0.1 in
      let set = turned_when a b own.1.1.1.0 in
      let v = advance_within a.value b.value b.rollover (dial_values m.digits) k.0.1.0.1 own.0.1 set in (
        record { later = own.1.0; near = own.1.1.1.1.0; rollover = set; forward = v.0; small = v.1 },
        good_advances m (after_read at) (some a) (b ∷ rs) k.1,
      )

  good_meters : (service : Service) (at : ℕ) (ms : List Meter) → All (Keeps bits) (placed at (meter_records service ms)) → at ≤ bits →
      All GoodMeter ms × (after_meters at ms ≤ bits) × (service ≡ Water → All (λ m. m.returned ≡ 100) ms)
  unfolding meter_records placed width rules_for after
  good_meters service at [] k w = (tt, w, λ e. tt)
  good_meters service at (m ∷ ms) k w =
      let head = meter_head m in
      let range = k.0.1.0 in
      let g : GoodMeterHead head =
      record {
        share = range.0;
        returned = range.1;
        digits_from = range.3.0;
        digits_to = range.3.1;
        installed = omega (arith, range.4);
        removed = k.0.1.1.0;
        few_reads = range.5;
      } in
      let s = apart bits (reads_from at) (after_meter at m) (in_turn (read head) none m.reads) (meter_records service ms) (reads_end head (reads_from at) m.reads) k.1 in
      let r = good_reads bits head (reads_from at) none m.reads s.0 k.0.0 in
      let v = good_advances head (reads_from at) none m.reads s.0 in
      let q = good_meters service (after_meter at m) ms s.1 r.within in
      ((record { head = g; reads = r.each; days = r.ascend; advances = v }, q.0), q.1, λ e. (range.2 e, q.2 e))

  good_points : (service : Service) (at : ℕ) (before : Option PointHead) (ps : List Point) → All (Keeps bits) (placed at (point_records service before ps)) → at ≤ bits →
      Through (GoodPoint service) (λ p. p.number) (least_after (λ p. p.number) before) ps (after_points at ps) bits
  unfolding point_records placed width rules_for after
  good_points service at before [] k w = record { each = tt; ascend = tt; within = w }
  good_points service at before (p ∷ ps) k w =
      let supply = p.supply in
      let from = transfers_from at in
      let conditions_from = after_transfers from p.transfers in
      let meters_from = after_conditions conditions_from supply.conditions in
      let ts = in_turn (transfer supply.connected) none p.transfers in
      let cs = in_turn (condition service) none supply.conditions in
      let range = k.0.1.0 in
      let head : GoodPointHead (point_head p) =
      record {
        connected = omega (arith, range.0);
        disconnected = k.0.1.1.1.0;
        some_transfers = range.1.0;
        few_transfers = range.1.1;
        few_conditions = range.2;
        few_meters = range.3;
      } in
      let s = apart bits from (after_point at p) (inside service p) (point_records service (some (point_head p)) ps) (inside_end service at p) k.1 in
      let u = apart bits from meters_from (dated service p) (meter_records service supply.meters) (dated_end service from p) s.0 in
      let v = apart bits from conditions_from ts cs (transfers_end supply.connected from p.transfers) u.0 in
      let t = good_transfers bits supply.connected from none p.transfers v.0 k.0.0 in
      let c = good_conditions bits service conditions_from none supply.conditions v.1 t.within in
      let m = good_meters service meters_from supply.meters u.1 c.within in
      let q = good_points service (after_point at p) (some (point_head p)) ps s.1 m.1 in
      let good : GoodPoint service p =
      record {
        head = head;
        transfers = t.each;
        transfer_days = t.ascend;
        first_transfer = first_by bits supply.connected from p.transfers v.0 range.1.0;
        conditions = all_all (λ c g. g.0) supply.conditions c.each;
        condition_days = c.ascend;
        meters = m.0;
        undrained = λ e. all_all (λ c g. g.1 e) supply.conditions c.each;
        unreturned = m.2;
      } in
      record { each = (good, q.each); ascend = ascends (λ p. p.number) (least_after (λ p. p.number) before) p ps (least_above (λ p. p.number) before (point_head p) k.0.1.1.0) q.ascend; within = q.within }

pub sound_good : (form : Form) (b : List ℕ) → SoundIn form b → GoodIn form b
unfolding rules_for
sound_good form b s =
    let f = decode_in form b in
    let t = f.tariff in
    let from = bands_at form in
    let k = rw (placed_file form f) at s.records in
    let range = k.0.1.1.0 in
    let points_from = after_bands from t.bands in
    let v = apart (bits_of b) from points_from (in_turn band none t.bands) (point_records t.service none f.points) (bands_end from t.bands) k.1 in
    let bs = good_bands (bits_of b) from none t.bands v.0 k.0.0 in
    let ps = good_points (bits_of b) t.service points_from none f.points v.1 bs.within in
    let header : GoodHeader form (file_header f) =
    record {
      marked = k.0.1.0.0;
      version = k.0.1.0.1;
      year_from = range.0.0;
      year_to = range.0.1;
      some_bands = range.1.0;
      few_bands = range.1.1;
      some_points = range.2.0;
      few_points = range.2.1;
      property = range.3;
      roads = range.4;
      water = range.5;
      capacity = range.6;
      standard = range.7;
    } in
    record {
      short = s.short;
      header = header;
      bands = bs.each;
      band_sizes = bs.ascend;
      points = ps.each;
      point_numbers = ps.ascend;
      fits = ps.within;
    }

pub accepted : (form : Form) (b : List ℕ) → file_refusal_in form b ≡ 0 → GoodIn form b
accepted form b h = sound_good form b (accepted_sound form b h)
