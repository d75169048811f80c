-- Document 01, "Numbers of a breach", with the forms of document 02, rule by rule: what each record is held to, when a file breaks no rule, and
-- which breach is the first.
-- Nothing here follows `Refusal`, which computes the number; `Promises.Demand1` says that what it computes is this.
use Rattle.std.specs.Prelude.{ℕ, ◌+◌, ◌-◌, ◌*◌, ◌≤◌, ◌<◌, ◌≡◌, true, false, List, [], ◌∷◌, ◌++◌, length}
use Prim.{Unit}
use Rattle.std.proofs.Math.Option.{Option, none, some}
use Rattle.rules.specs.declared.Service.{Service}
use Rattle.rules.specs.declared.Service.TheVariants.{Water}
use Rattle.rules.specs.declared.Header.{Header}
use Rattle.rules.specs.declared.Band.{Band}
use Rattle.rules.specs.declared.PointHead.{PointHead}
use Rattle.rules.specs.declared.Transfer.{Transfer}
use Rattle.rules.specs.declared.Condition.{Condition}
use Rattle.rules.specs.declared.MeterHead.{MeterHead}
use Rattle.rules.specs.declared.Read.{Read}
use Rattle.rules.specs.Lists.{All, Some}
use Rattle.rules.specs.Calendar.{last_day}
use Rattle.rules.specs.Field.{field}
use Rattle.rules.specs.declared.Form.{Form}
use Rattle.rules.specs.Form.{form_at}
use Rattle.rules.specs.File.{Meter, Point, File, meter_head, point_head, file_header, after, decode_in}
use Rattle.rules.specs.Litres.{dial_values}
use Rattle.rules.specs.Settlement.{providers_of}

-- THE RECORDS, IN FILE ORDER
-- A record, beside what its rules compare it with: for the header the form that the file is read by; the one before it in its list, if there is
-- one; for a transfer the point's connection day; for a condition and a meter the file's service; for a read its meter.
pub data Record : Type 0 where
  header : Form → Header → Record
  band : Option Band → Band → Record
  point : Option PointHead → PointHead → Record
  transfer : ℕ → Option Transfer → Transfer → Record
  condition : Service → Option Condition → Condition → Record
  meter : Service → MeterHead → Record
  read : MeterHead → Option Read → Read → Record

-- each of a list, beside the one before it
unfoldable pub in_turn : {A : Type 0} → (Option A → A → Record) → Option A → List A → List Record
in_turn make before [] = []
in_turn make before (a ∷ rest) = make before a ∷ in_turn make (some a) rest

-- each meter is followed by its reads
unfoldable pub meter_records : Service → List Meter → List Record
meter_records service [] = []
meter_records service (m ∷ ms) = meter service (meter_head m) ∷ in_turn (read (meter_head m)) none m.reads ++ meter_records service ms

-- each point by its transfers, conditions and meters
unfoldable pub point_records : Service → Option PointHead → List Point → List Record
point_records service before [] = []
point_records service before (p ∷ ps) =
    point before (point_head p)
    ∷ in_turn (transfer p.supply.connected) none p.transfers
    ++ in_turn (condition service) none p.supply.conditions
    ++ meter_records service p.supply.meters
    ++ point_records service (some (point_head p)) ps

-- the header, all bands, all points
unfoldable pub file_records : Form → File → List Record
file_records form f =
    header form (file_header f)
    ∷ in_turn band none f.tariff.bands
    ++ point_records f.tariff.service none f.points

-- the bits of a record, field by field
unfoldable pub width : Record → ℕ
width (header form h) = 16 + 4 + 1 + 12 + 5 + form.count_bits + 14 + 14 + 17 + 17
width (band before b) = 16 + 30 + 20 + 24
width (point before p) = 32 + 16 + 16 + 5 + 6 + 5
width (transfer connected before t) = 16 + 16
width (condition service before c) = 16 + 1 + 1 + 1 + 1 + 14 + 14 + 24
width (meter service m) = 16 + 7 + 7 + 4 + 16 + 16 + 6
width (read m before r) = 16 + 1 + 27

-- a record in its place: `next` is the position after it
pub record Placed : Type 0 where
  pub what : Record
  pub next : ℕ

-- records from a position on, with no gaps
unfoldable pub placed : ℕ → List Record → List Placed
placed at [] = []
placed at (r ∷ rs) = record { what = r; next = at + width r } ∷ placed (at + width r) rs

-- RANGES
-- "A day is 0 to 65,534"
abbrev pub IsDay : ℕ → Type 0
IsDay day = day ≤ last_day

abbrev pub Between : ℕ → ℕ → ℕ → Type 0
Between low high x = (low ≤ x) × (x ≤ high)

-- "0 in a water file"
abbrev pub DryInWater : {A : Type 0} → A → Service → A → A → Type 0
DryInWater nothing service property roads = service ≡ Water → (property ≡ nothing) × (roads ≡ nothing)

abbrev pub HeaderInRange : Form → Header → Type 0
HeaderInRange form h =
    Between 2020 2098 h.year
    × Between 1 24 h.bands
    × Between 1 form.most_points h.points
    × (h.property ≤ 10000)
    × (h.roads ≤ 10000)
    × DryInWater 0 h.service h.property h.roads
    × (h.capacity ≤ 100000)
    × (h.standard ≤ 100000)

abbrev pub BandInRange : Band → Type 0
BandInRange b = (1 ≤ b.size) × (b.annual ≤ 1000000000) × (b.allowance ≤ 1000000) × (b.threshold ≤ 10000000) × (b.allowance ≤ b.threshold)

abbrev pub PointInRange : PointHead → Type 0
PointInRange p = IsDay p.connected × Between 1 24 p.transfers × (p.conditions ≤ 48) × (p.meters ≤ 16)

abbrev pub TransferInRange : Transfer → Type 0
TransferInRange t = IsDay t.day × (1 ≤ t.provider)

abbrev pub ConditionInRange : Service → Condition → Type 0
ConditionInRange service c =
    IsDay c.day × DryInWater false service c.property c.roads × (c.schedule3 ≤ 10000) × (c.section29e ≤ 10000) × (c.rateable ≤ 10000000)

-- "return is 100 in a water file"
abbrev pub MeterInRange : Service → MeterHead → Type 0
MeterInRange service m =
    (m.share ≤ 100)
    × (m.returned ≤ 100)
    × (service ≡ Water → m.returned ≡ 100)
    × Between 4 8 m.digits
    × IsDay m.installed
    × (m.reads ≤ 40)

abbrev pub ReadInRange : MeterHead → Read → Type 0
ReadInRange m r = IsDay r.day × (r.value < dial_values m.digits)

-- WHAT IS SAID OF A RECORD AND THE ONE BEFORE IT
-- strictly ascending by a key
abbrev pub Above : {A : Type 0} → (A → ℕ) → Option A → A → Type 0
Above key none a = Unit {0}
Above key (some b) a = key b < key a

-- the first transfer is not after connection
abbrev pub FromConnection : ℕ → Option Transfer → Transfer → Type 0
FromConnection connected none t = t.day ≤ connected
FromConnection connected (some before) t = Unit {0}

-- rollover is not set on a first read, and on another exactly when the value falls
abbrev pub Turned : Option Read → Read → Type 0
Turned none r = r.rollover ≡ false
Turned (some before) r = (r.value < before.value → r.rollover ≡ true) × (before.value ≤ r.value → r.rollover ≡ false)

-- at most 3,660 days between reads
abbrev pub SoonAfter : Option Read → Read → Type 0
SoonAfter none r = Unit {0}
SoonAfter (some before) r = r.day ≤ before.day + 3660

-- THE RULES
-- what a rule asks, and the number of its breach: 2 a record lacks bits; 3 mark or version; 4 field outside its range; 5 band sizes, point numbers,
-- or a list's days not strictly ascending; 6 first transfer after connection; 7 discounts together above 10,000; 8 disconnection before connection,
-- or removal before installation; 9 read before installation or after removal; 10 rollover set on a first read, or not set exactly when the value
-- falls; 11 over 3,660 days between reads
pub record Rule : Type 1 where
  pub number : ℕ
  pub Kept : Type 0

abbrev pub rule : ℕ → Type 0 → Rule
rule number Kept = record { number = number; Kept = Kept }

-- the rules for a record by what it holds, their numbers ascending
unfoldable pub rules_for : Record → List Rule
rules_for (header form h) = rule 3 ((h.mark ≡ 0x5753) × (h.version ≡ form.version)) ∷ rule 4 (HeaderInRange form h) ∷ []
rules_for (band before b) = rule 4 (BandInRange b) ∷ rule 5 (Above (λ b. b.size) before b) ∷ []
rules_for (point before p) = rule 4 (PointInRange p) ∷ rule 5 (Above (λ p. p.number) before p) ∷ rule 8 (p.connected ≤ p.disconnected) ∷ []
rules_for (transfer connected before t) =
    rule 4 (TransferInRange t) ∷ rule 5 (Above (λ t. t.day) before t) ∷ rule 6 (FromConnection connected before t) ∷ []
rules_for (condition service before c) =
    rule 4 (ConditionInRange service c) ∷ rule 5 (Above (λ c. c.day) before c) ∷ rule 7 (c.schedule3 + c.section29e ≤ 10000) ∷ []
rules_for (meter service m) = rule 4 (MeterInRange service m) ∷ rule 8 (m.installed ≤ m.removed) ∷ []
rules_for (read m before r) =
    rule 4 (ReadInRange m r)
    ∷ rule 5 (Above (λ r. r.day) before r)
    ∷ rule 9 ((m.installed ≤ r.day) × (r.day ≤ m.removed))
    ∷ rule 10 (Turned before r)
    ∷ rule 11 (SoonAfter before r)
    ∷ []

-- and, before them, by its place: it ends within the file's bits
abbrev pub rules_of : ℕ → Placed → List Rule
rules_of bits p = rule 2 (p.next ≤ bits) ∷ rules_for p.what

-- a record breaks no rule
abbrev pub Keeps : ℕ → Placed → Type 0
Keeps bits p = All (λ rule. rule.Kept) (rules_of bits p)

-- A FILE WITHOUT A BREACH
abbrev pub bits_of : List ℕ → ℕ
bits_of file = length file * 8

abbrev pub records_in : Form → List ℕ → List Placed
records_in form file = placed 0 (file_records form (decode_in form file))

-- the position after the last record
abbrev pub records_end : Form → List ℕ → ℕ
records_end form file = after (λ at r. at + width r) 0 (file_records form (decode_in form file))

-- "Bits after the last record are zero to the end of that byte, and no byte follows."
pub record Padded (file : List ℕ) (end : ℕ) : Type 0 where
  pub short : bits_of file - end < 8
  pub zeros : field file end (bits_of file - end) ≡ 0

-- none of 1 to 12
pub record SoundIn (form : Form) (file : List ℕ) : Type 0 where
  pub short : length file ≤ 65536
  pub records : All (Keeps (bits_of file)) (records_in form file)
  pub padded : Padded file (records_end form file)

-- how many providers have a charged day
abbrev pub providers_in : Form → List ℕ → ℕ
providers_in form file = let f = decode_in form file in length (providers_of f.tariff f.points)

-- none of 1 to 13
pub record LawfulIn (form : Form) (file : List ℕ) : Type 0 where
  pub sound : SoundIn form file
  pub few : providers_in form file ≤ 64

-- by the file's own form
abbrev pub Sound : List ℕ → Type 0
Sound file = SoundIn (form_at file) file

abbrev pub Lawful : List ℕ → Type 0
Lawful file = LawfulIn (form_at file) file

-- THE FIRST BREACH
-- n is the number of one of the rules that is broken, and the least
pub record Breaks (rules : List Rule) (n : ℕ) : Type 0 where
  pub broken : Some (λ rule. (rule.number ≡ n) × ¬ rule.Kept) rules
  pub least : All (λ rule. ¬ rule.Kept → n ≤ rule.number) rules

-- n is that of the first record that breaks a rule: all before it break none
pub record FirstBroken (bits : ℕ) (records : List Placed) (n : ℕ) : Type 0 where
  pub before : List Placed
  pub first : Placed
  pub later : List Placed
  pub order : records ≡ before ++ (first ∷ later)
  pub kept : All (Keeps bits) before
  pub breaks : Breaks (rules_of bits first) n

-- n is a breach's number where it is there, and else what comes after it says
pub data First (Breach : Type 0) (number : ℕ) (Then : ℕ → Type 0) (n : ℕ) : Type 0 where
  here : Breach → n ≡ number → First Breach number Then n
  past : ¬ Breach → Then n → First Breach number Then n

-- the same of the records, whose breach has one of many numbers
pub data FirstRecord (bits : ℕ) (records : List Placed) (Then : ℕ → Type 0) (n : ℕ) : Type 0 where
  within : FirstBroken bits records n → FirstRecord bits records Then n
  beyond : All (Keeps bits) records → Then n → FirstRecord bits records Then n

-- no breach is there: the number is 0
abbrev pub NoBreach : ℕ → Type 0
NoBreach n = n ≡ 0

-- "Order: 1; then each record in file order, its own numbers ascending; then 12, 13; then 14 or 15." `Then` says what comes after.
abbrev pub FileBreachIn : Form → List ℕ → (ℕ → Type 0) → ℕ → Type 0
FileBreachIn form file Then =
    First (65536 < length file) 1 (FirstRecord (bits_of file) (records_in form file) (First (¬ Padded file (records_end form file)) 12 Then))

abbrev pub FirstBreachIn : Form → List ℕ → (ℕ → Type 0) → ℕ → Type 0
FirstBreachIn form file Then = FileBreachIn form file (First (64 < providers_in form file) 13 Then)

-- by the file's own form
abbrev pub FirstBreach : List ℕ → (ℕ → Type 0) → ℕ → Type 0
FirstBreach file Then = FirstBreachIn (form_at file) file Then
