-- The number that `Refusal` computes of each record is that of the first of its rules that is not kept. Assumes nothing.
use Prim.Native.Nat.{ℕ, zero, suc, ◌+◌, ◌≤◌, ◌<◌}
use Prim.{Unit, tt}
use mathlib.Core.Path.{◌≡◌, refl, ap}
use mathlib.Core.Logic.{◌↔◌, inl, inr}
use mathlib.Core.Option.{Option, none, some}
use mathlib.Core.List.{List, [], ◌∷◌}
use mathlib.Core.Bool.{Bool, true, false, beq, ◌&&◌, ◌||◌, not}
use native.Mathlib.Omega.{arith}
use lib.Dec.{ltb, leb, eqb}
use borrow.Author.Tests.{ltb-true, ltb-false, leb-true, leb-false, eqb-true, eqb-false, not-false, le-ltb, lt-leb, eq-eqb, ne_eqb}
use Rattle.rules.specs.declared.Service.{Service}
use Rattle.rules.specs.declared.Service.TheVariants.{Water, Sewerage}
use Rattle.rules.specs.declared.Header.{Header}
use Rattle.rules.specs.declared.Form.{Form}
use Rattle.rules.specs.declared.Band.{Band}
use Rattle.rules.specs.declared.PointHead.{PointHead}
use Rattle.rules.specs.declared.Transfer.{Transfer}
use Rattle.rules.specs.declared.Condition.{Condition}
use Rattle.rules.specs.declared.MeterHead.{MeterHead}
use Rattle.rules.specs.declared.Read.{Read}
use Rattle.rules.specs.Lists.{All}
use Rattle.rules.specs.Calendar.{no_day}
use Rattle.rules.specs.Litres.{dial_values}
use Rattle.rules.specs.Lawful.{Record, header, band, point, transfer, condition, meter, read, IsDay, Between, DryInWater, HeaderInRange, BandInRange, PointInRange, TransferInRange, ConditionInRange, MeterInRange, ReadInRange, Above, Turned, Rule, rule, rules_for, rules_of, Breaks}
use Rattle.rules.specs.Refusal.{when, outside, is_water, header_outside, band_outside, point_outside, transfer_outside, condition_outside, meter_outside, read_outside, header_rule, band_rule, point_rule, transfer_rule, condition_rule, meter_rule, read_rule}

-- TESTS: each is false exactly where what it tries is so
abbrev pub Tries : Bool → Type 0 → Type 0
Tries t Kept = (t ≡ false) ↔ Kept

not_above : (a b : ℕ) → Tries (ltb a b) (b ≤ a)
not_above a b = (ltb-false a b, le-ltb a b)

a_day : (d : ℕ) → Tries (leb no_day d) (IsDay d)
a_day d = (λ h. omega (arith, leb-false no_day d h), λ h. lt-leb no_day d (omega arith))

pub below : (a b : ℕ) → Tries (leb a b) (b < a)
below a b = (leb-false a b, lt-leb a b)

pub the_same : (a b : ℕ) → Tries (not (eqb a b)) (a ≡ b)
the_same a b = (λ h. eqb-true a b (not-false _ h), λ h. ap not (eq-eqb a b h))

from_one : (x : ℕ) → Tries (eqb x 0) (1 ≤ x)
from_one x = (λ h. some_of x (eqb-false x 0 h), λ h. ne_eqb x 0 (λ e. omega arith))
  where
    some_of : (x : ℕ) → (x ≡ 0 → ⊥) → 1 ≤ x
    some_of zero h = absurd (h refl)
    some_of (suc x) h = omega arith

pub or : {s t : Bool} {A B : Type 0} → Tries s A → Tries t B → Tries (s || t) (A × B)
or {s = true} f g = (λ h. absurd (let z : ◌≡◌ {A = ℕ} 0 1 = cc in omega arith), λ x. f.1 x.0)
or {s = false} f g = (λ h. (f.0 refl, g.0 h), λ x. g.1 x.1)

both : (a b c d : ℕ) → Tries (not (eqb a b && eqb c d)) ((a ≡ b) × (c ≡ d))
both a b c d = go (eqb a b) refl
  where
    go : (t : Bool) → eqb a b ≡ t → Tries (not (t && eqb c d)) ((a ≡ b) × (c ≡ d))
    go true e = (λ h. (eqb-true a b e, eqb-true c d (not-false _ h)), λ x. ap not (eq-eqb c d x.1))
    go false e = (λ h. absurd (let z : ◌≡◌ {A = ℕ} 0 1 = cc in omega arith), λ x. absurd (eqb-false a b e x.0))

inside : (low x high : ℕ) → Tries (outside low x high) (Between low high x)
inside low x high = or (not_above x low) (not_above high x)

-- what is asked of a water file alone
in_water : (service : Service) {t : Bool} {A : Type 0} → Tries t A → Tries (is_water service && t) (service ≡ Water → A)
in_water Water f = (λ h e. f.0 h, λ x. f.1 (x refl))
in_water Sewerage f = (λ h e. cc, λ x. refl)

dry : (service : Service) (property roads : ℕ) → Tries (is_water service && (ltb 0 property || ltb 0 roads)) (DryInWater 0 service property roads)
dry service property roads = in_water service (or (none_of property) (none_of roads))
  where
    none_of : (x : ℕ) → Tries (ltb 0 x) (x ≡ 0)
    none_of x = (λ h. omega (arith, ltb-false 0 x h), λ h. le-ltb 0 x (omega arith))

undrained : (service : Service) (property roads : Bool) → Tries (is_water service && (property || roads)) (DryInWater false service property roads)
undrained service property roads = in_water service (or (λ h. h, λ h. h) (λ h. h, λ h. h))

-- RANGES
pub header_range : (form : Form) (h : Header) → Tries (header_outside form h) (HeaderInRange form h)
header_range form h =
    let f = or (or (or (or (or (or (or (inside 2020 h.year 2098) (inside 1 h.bands 24)) (inside 1 h.points form.most_points))
    (not_above 10000 h.property))
    (not_above 10000 h.roads))
    (dry h.service h.property h.roads))
    (not_above 100000 h.capacity))
    (not_above 100000 h.standard) in (
      λ e. let x = f.0 e in (
        x.0.0.0.0.0.0.0,
        x.0.0.0.0.0.0.1,
        x.0.0.0.0.0.1,
        x.0.0.0.0.1,
        x.0.0.0.1,
        x.0.0.1,
        x.0.1,
        x.1,
      ),
      λ x. f.1 (((((((x.0, x.1), x.2), x.3), x.4), x.5), x.6), x.7),
    )

band_range : (b : Band) → Tries (band_outside b) (BandInRange b)
band_range b =
    let f = or (or (or (or (from_one b.size) (not_above 1000000000 b.annual)) (not_above 1000000 b.allowance)) (not_above 10000000 b.threshold))
    (not_above b.threshold b.allowance) in
    (λ e. let x = f.0 e in (x.0.0.0.0, x.0.0.0.1, x.0.0.1, x.0.1, x.1), λ x. f.1 ((((x.0, x.1), x.2), x.3), x.4))

point_range : (p : PointHead) → Tries (point_outside p) (PointInRange p)
point_range p =
    let f = or (or (or (a_day p.connected) (inside 1 p.transfers 24)) (not_above 48 p.conditions)) (not_above 16 p.meters) in
    (λ e. let x = f.0 e in (x.0.0.0, x.0.0.1, x.0.1, x.1), λ x. f.1 (((x.0, x.1), x.2), x.3))

transfer_range : (t : Transfer) → Tries (transfer_outside t) (TransferInRange t)
transfer_range t = or (a_day t.day) (from_one t.provider)

condition_range : (service : Service) (c : Condition) → Tries (condition_outside service c) (ConditionInRange service c)
condition_range service c =
    let f = or (or (or (or (a_day c.day) (undrained service c.property c.roads)) (not_above 10000 c.schedule3)) (not_above 10000 c.section29e))
    (not_above 10000000 c.rateable) in
    (λ e. let x = f.0 e in (x.0.0.0.0, x.0.0.0.1, x.0.0.1, x.0.1, x.1), λ x. f.1 ((((x.0, x.1), x.2), x.3), x.4))

meter_range : (service : Service) (m : MeterHead) → Tries (meter_outside service m) (MeterInRange service m)
meter_range service m =
    let f = or (or (or (or (or (not_above 100 m.share) (not_above 100 m.returned)) (in_water service (the_same m.returned 100))) (inside 4 m.digits 8))
    (a_day m.installed))
    (not_above 40 m.reads) in
    (λ e. let x = f.0 e in (x.0.0.0.0.0, x.0.0.0.0.1, x.0.0.0.1, x.0.0.1, x.0.1, x.1), λ x. f.1 (((((x.0, x.1), x.2), x.3), x.4), x.5))

read_range : (m : MeterHead) (r : Read) → Tries (read_outside m r) (ReadInRange m r)
read_range m r = or (a_day r.day) (below (dial_values m.digits) r.value)

-- A RECORD AND THE ONE BEFORE IT
-- the least key that may follow
abbrev pub least_after : {A : Type 0} → (A → ℕ) → Option A → ℕ
least_after key none = 0
least_after key (some a) = key a + 1

above : {A : Type 0} (key : A → ℕ) (before : Option A) (a : A) → Tries (ltb (key a) (least_after key before)) (Above key before a)
above key none a = (λ h. tt, λ x. le-ltb (key a) 0 (omega arith))
above key (some b) a = (λ h. omega (arith, ltb-false (key a) (key b + 1) h), λ h. le-ltb (key a) (key b + 1) (omega arith))

-- the value before a read: 0 before the first, so that none falls
abbrev pub value_before : Option Read → ℕ
value_before none = 0
value_before (some a) = a.value

same_flag : (a b : Bool) → Tries (not (beq a b)) (a ≡ b)
same_flag true true = (λ h. refl, λ h. refl)
same_flag true false = (λ h. cc, λ h. cc)
same_flag false true = (λ h. cc, λ h. cc)
same_flag false false = (λ h. refl, λ h. refl)

turned : (before : Option Read) (r : Read) → Tries (not (beq r.rollover (ltb r.value (value_before before)))) (Turned before r)
turned none r = simp (le-ltb r.value 0 (omega arith)) (same_flag r.rollover false)
turned (some a) r = go (ltb r.value a.value) refl
  where
    go : (t : Bool) → ltb r.value a.value ≡ t → Tries (not (beq r.rollover t)) (Turned (some a) r)
    go true e =
        let falls = ltb-true r.value a.value e in
        let same = same_flag r.rollover true in
        (λ h. (λ k. same.0 h, λ k. absurd (omega arith)), λ x. same.1 (x.0 falls))
    go false e =
        let stays = ltb-false r.value a.value e in
        let same = same_flag r.rollover false in
        (λ h. (λ k. absurd (omega arith), λ k. same.0 h), λ x. same.1 (x.1 stays))

-- the latest day allowed for a transfer: the connection's for the first, and else any
abbrev pub latest_transfer : ℕ → Option Transfer → ℕ
latest_transfer connected none = connected
latest_transfer connected (some a) = no_day

-- and for a read: any for the first, and else 3,660 days after the one before
abbrev pub latest_read : Option Read → ℕ
latest_read none = no_day
latest_read (some a) = a.day + 3660

-- where a day is in its range, none is after it
any_day : (d : ℕ) (t : Bool) (rest : ℕ → ℕ) (n : ℕ) → when (leb no_day d || t) 4 (rest (when (ltb no_day d) n 0)) ≡ when (leb no_day d || t) 4 (rest 0)
any_day d t rest n = go (leb no_day d) refl
  where
    go : (s : Bool) → leb no_day d ≡ s → when (s || t) 4 (rest (when (ltb no_day d) n 0)) ≡ when (s || t) 4 (rest 0)
    go true e = refl
    go false e = rw (le-ltb no_day d (omega (arith, leb-false no_day d e)))

asks_nothing : Tries false (Unit {0})
asks_nothing = (λ h. tt, λ x. refl)

-- RULES ONE AFTER THE OTHER
-- n is what tests in the order of these rules give. Their numbers ascend, from `low` on, and are at most 11.
pub data Judged : ℕ → List Rule → ℕ → Type 1 where
  clear : {low : ℕ} → Judged low [] 0
  judge : {low n : ℕ} {t : Bool} {Kept : Type 0} {rules : List Rule} (number : ℕ) → (leb low number && leb number 11) ≡ true → Tries t Kept → Judged (suc number) rules n →
      Judged low (rule number Kept ∷ rules) (when t number n)

numbered : (low number : ℕ) → (leb low number && leb number 11) ≡ true → (low ≤ number) × (number ≤ 11)
numbered low number e = go (leb low number) refl e
  where
    go : (t : Bool) → leb low number ≡ t → (t && leb number 11) ≡ true → (low ≤ number) × (number ≤ 11)
    go true h e = (leb-true low number h, leb-true number 11 e)
    go false h e = absurd (let z : ◌≡◌ {A = ℕ} 0 1 = cc in omega arith)

-- none of them has a smaller number
all_from : {low n : ℕ} {rules : List Rule} → Judged low rules n → (k : ℕ) → k ≤ low → All (λ rule. ¬ rule.Kept → k ≤ rule.number) rules
all_from clear k h = tt
all_from {low} (judge number e tries rest) k h = let n = numbered low number e in (λ broken. omega arith, all_from rest k (omega arith))

-- either all are kept and the number is 0, or it is the least of those that are broken
pub data Outcome (low : ℕ) (rules : List Rule) (n : ℕ) : Type 1 where
  keeps : n ≡ 0 → All (λ rule. rule.Kept) rules → Outcome low rules n
  breaks : Breaks rules n → low ≤ n → n ≤ 11 → Outcome low rules n

kept_first : {low number n : ℕ} {Kept : Type 0} {rules : List Rule} → Kept → low ≤ number → Outcome (suc number) rules n → Outcome low (rule number Kept ∷ rules) n
kept_first kept from (keeps is all) = keeps is (kept, all)
kept_first kept from (breaks b more few) = breaks (record { broken = inr b.broken; least = (λ broken. absurd (broken kept), b.least) }) (omega arith) few

pub outcome : {low n : ℕ} {rules : List Rule} → Judged low rules n → Outcome low rules n
outcome clear = keeps refl tt
outcome {low} (judge {t = true} number e tries rest) =
    let range = numbered low number e in
    breaks (record { broken = inl (refl, λ kept. let f = tries.1 kept in let z : ◌≡◌ {A = ℕ} 0 1 = cc in omega arith); least = (λ b. omega arith, all_from rest number (omega arith)) }) range.0 range.1
outcome {low} (judge {t = false} number e tries rest) = kept_first (tries.0 refl) (numbered low number e).0 (outcome rest)

-- where the number is 0 all are kept
pub kept : {n : ℕ} {rules : List Rule} → Judged 2 rules n → n ≡ 0 → All (λ rule. rule.Kept) rules
kept {n} {rules} j z = go (outcome j)
  where
    go : Outcome 2 rules n → All (λ rule. rule.Kept) rules
    go (keeps is all) = all
    go (breaks b low few) = absurd (omega arith)

-- EACH RECORD
-- where a record's number is 0 it lacks no bits
pub lacks_none : (bits next n : ℕ) → when (ltb bits next) 2 n ≡ 0 → next ≤ bits
lacks_none bits next n e = go (ltb bits next) refl e
  where
    go : (t : Bool) → ltb bits next ≡ t → when t 2 n ≡ 0 → next ≤ bits
    go true h z = absurd (omega arith)
    go false h z = ltb-false bits next h

module _ (bits next : ℕ) where
  -- what its tests give, that of its bits first
  abbrev pub Gives : Record → ℕ → Type 1
  Gives r n = Judged 2 (rules_of bits (record { what = r; next = next })) n

  pub band_gives : (before : Option Band) (b : Band) → Gives (band before b) (band_rule bits next (least_after (λ b. b.size) before) b)
  unfolding band_rule rules_for
  band_gives before b = judge 2 refl (not_above bits next) (judge 4 refl (band_range b) (judge 5 refl (above (λ b. b.size) before b) clear))

  pub header_gives : (form : Form) (h : Header) → Gives (header form h) (header_rule form bits next h)
  unfolding header_rule rules_for
  header_gives form h =
      judge 2 refl (not_above bits next) (judge 3 refl (both h.mark 0x5753 h.version form.version) (judge 4 refl (header_range form h) clear))

  pub point_gives : (before : Option PointHead) (p : PointHead) → Gives (point before p) (point_rule bits next (least_after (λ p. p.number) before) p)
  unfolding point_rule rules_for
  point_gives before p =
      judge 2 refl (not_above bits next)
      (judge 4 refl (point_range p)
      (judge 5 refl (above (λ p. p.number) before p)
      (judge 8 refl (not_above p.disconnected p.connected) clear)))

  pub condition_gives : (service : Service) (before : Option Condition) (c : Condition) →
      Gives (condition service before c) (condition_rule bits next service (least_after (λ c. c.day) before) c)
  unfolding condition_rule rules_for
  condition_gives service before c =
      judge 2 refl (not_above bits next)
      (judge 4 refl (condition_range service c)
      (judge 5 refl (above (λ c. c.day) before c)
      (judge 7 refl (not_above 10000 (c.schedule3 + c.section29e)) clear)))

  pub meter_gives : (service : Service) (m : MeterHead) → Gives (meter service m) (meter_rule bits next service m)
  unfolding meter_rule rules_for
  meter_gives service m =
      judge 2 refl (not_above bits next) (judge 4 refl (meter_range service m) (judge 8 refl (not_above m.removed m.installed) clear))

  pub meter_digits : (service : Service) (m : MeterHead) → meter_rule bits next service m ≡ 0 → Between 4 8 m.digits
  unfolding rules_for
  meter_digits service m z = (kept (meter_gives service m) z).1.0.3

  pub transfer_gives : (connected : ℕ) (before : Option Transfer) (t : Transfer) →
      Gives (transfer connected before t) (transfer_rule bits next (least_after (λ t. t.day) before) (latest_transfer connected before) t)
  unfolding transfer_rule rules_for
  transfer_gives connected none t =
      judge 2 refl (not_above bits next)
      (judge 4 refl (transfer_range t)
      (judge 5 refl (above (λ t. t.day) none t)
      (judge 6 refl (not_above connected t.day) clear)))
  transfer_gives connected (some a) t =
      rw (any_day t.day (eqb t.provider 0) (when (ltb t.day (a.day + 1)) 5) 6)
      (judge 2 refl (not_above bits next)
      (judge 4 refl (transfer_range t)
      (judge 5 refl (above (λ t. t.day) (some a) t)
      (judge 6 refl asks_nothing clear))))

  pub read_gives : (m : MeterHead) (before : Option Read) (r : Read) →
      Gives (read m before r) (read_rule bits next m (least_after (λ r. r.day) before) (latest_read before) (value_before before) r)
  unfolding read_rule rules_for
  read_gives m none r =
      rw (any_day r.day (leb (dial_values m.digits) r.value) (λ n. when (ltb r.day 0) 5 (when (ltb r.day m.installed || ltb m.removed r.day) 9 (when (not (beq r.rollover (ltb r.value 0))) 10 n))) 11)
      (judge 2 refl (not_above bits next)
      (judge 4 refl (read_range m r)
      (judge 5 refl (above (λ r. r.day) none r)
      (judge 9 refl (or (not_above r.day m.installed) (not_above m.removed r.day))
      (judge 10 refl (turned none r)
      (judge 11 refl asks_nothing clear))))))
  read_gives m (some a) r =
      judge 2 refl (not_above bits next)
      (judge 4 refl (read_range m r)
      (judge 5 refl (above (λ r. r.day) (some a) r)
      (judge 9 refl (or (not_above r.day m.installed) (not_above m.removed r.day))
      (judge 10 refl (turned (some a) r)
      (judge 11 refl (not_above (a.day + 3660) r.day) clear)))))
