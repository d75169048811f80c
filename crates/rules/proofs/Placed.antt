-- Where the records of a file stand: by the widths of all before them, and as `File` goes from list to list. Assumes nothing.
use Prim.Native.Nat.{ℕ, ◌+◌}
use mathlib.Core.Path.{◌≡◌, refl, ap, ◌∙◌}
use mathlib.Core.Option.{Option, none, some}
use mathlib.Core.List.{List, [], ◌∷◌, ◌++◌}
use native.Mathlib.Omega.{arith}
use Rattle.rules.specs.declared.Header.{Header}
use Rattle.rules.specs.declared.Service.{Service}
use Rattle.rules.specs.declared.Band.{Band}
use Rattle.rules.specs.declared.PointHead.{PointHead}
use Rattle.rules.specs.declared.Transfer.{Transfer}
use Rattle.rules.specs.declared.Condition.{Condition}
use Rattle.rules.specs.declared.MeterHead.{MeterHead}
use Rattle.rules.specs.declared.Read.{Read}
use Rattle.rules.specs.declared.Form.{Form}
use Rattle.rules.specs.File.{Meter, Point, File, meter_head, point_head, file_header, bands_at, band_bits, transfer_bits, condition_bits, read_bits, after_bands, transfers_from, after_transfers, after_conditions, reads_from, after_reads, after_meter, after_meters, after_point, after_points, after, decode_in}
use Rattle.rules.specs.Lawful.{Record, header, band, transfer, condition, read, in_turn, meter_records, point_records, file_records, width, placed, records_end}

-- the position after some records
abbrev pub ends : ℕ → List Record → ℕ
ends at rs = after (λ at r. at + width r) at rs

pub placed_append : (at : ℕ) (xs ys : List Record) → placed at (xs ++ ys) ≡ placed at xs ++ placed (ends at xs) ys
unfolding placed after
placed_append at [] ys = refl
placed_append at (x ∷ xs) ys = rw (placed_append (at + width x) xs ys)

pub ends_append : (at : ℕ) (xs ys : List Record) → ends at (xs ++ ys) ≡ ends (ends at xs) ys
unfolding after
ends_append at [] ys = refl
ends_append at (x ∷ xs) ys = ends_append (at + width x) xs ys

-- a list of records of one width
pub ends_turn : {A : Type 0} (make : Option A → A → Record) (w : ℕ) → ((before : Option A) (a : A) → width (make before a) ≡ w) →
    (at : ℕ) (before : Option A) (xs : List A) → ends at (in_turn make before xs) ≡ after (λ at a. at + w) at xs
unfolding after in_turn
ends_turn make w each at before [] = refl
ends_turn make w each at before (a ∷ rest) = ap (λ n. ends (at + n) (in_turn make (some a) rest)) (each before a) ∙ ends_turn make w each (at + w) (some a) rest

pub transfers_end : (connected at : ℕ) (ts : List Transfer) → ends at (in_turn (transfer connected) none ts) ≡ after_transfers at ts
unfolding width
transfers_end connected at ts = ends_turn (transfer connected) transfer_bits (λ before t. refl) at none ts

pub conditions_end : (service : Service) (at : ℕ) (cs : List Condition) → ends at (in_turn (condition service) none cs) ≡ after_conditions at cs
unfolding width
conditions_end service at cs = ends_turn (condition service) condition_bits (λ before c. refl) at none cs

pub bands_end : (at : ℕ) (bs : List Band) → ends at (in_turn band none bs) ≡ after_bands at bs
unfolding width
bands_end at bs = ends_turn band band_bits (λ before b. refl) at none bs

pub reads_end : (m : MeterHead) (at : ℕ) (rs : List Read) → ends at (in_turn (read m) none rs) ≡ after_reads at rs
unfolding width
reads_end m at rs = ends_turn (read m) read_bits (λ before r. refl) at none rs

pub meters_end : (service : Service) (at : ℕ) (ms : List Meter) → ends at (meter_records service ms) ≡ after_meters at ms
unfolding after meter_records width
meters_end service at [] = refl
meters_end service at (m ∷ ms) =
    ends_append (reads_from at) (in_turn (read (meter_head m)) none m.reads) (meter_records service ms)
    ∙ (ap (λ k. ends k (meter_records service ms)) (reads_end (meter_head m) (reads_from at) m.reads) ∙ meters_end service (after_meter at m) ms)

-- a point's transfers and conditions, and with them its meters
abbrev pub dated : Service → Point → List Record
dated service p = in_turn (transfer p.supply.connected) none p.transfers ++ in_turn (condition service) none p.supply.conditions

abbrev pub inside : Service → Point → List Record
inside service p = dated service p ++ meter_records service p.supply.meters

pub dated_end : (service : Service) (at : ℕ) (p : Point) → ends at (dated service p) ≡ after_conditions (after_transfers at p.transfers) p.supply.conditions
dated_end service at p =
    let ts = in_turn (transfer p.supply.connected) none p.transfers in
    let cs = in_turn (condition service) none p.supply.conditions in
    ends_append at ts cs
    ∙ (ap (λ k. ends k cs) (transfers_end p.supply.connected at p.transfers) ∙ conditions_end service (after_transfers at p.transfers) p.supply.conditions)

pub inside_end : (service : Service) (at : ℕ) (p : Point) → ends (transfers_from at) (inside service p) ≡ after_point at p
inside_end service at p =
    let ms = meter_records service p.supply.meters in
    ends_append (transfers_from at) (dated service p) ms
    ∙ (ap (λ k. ends k ms) (dated_end service (transfers_from at) p) ∙ meters_end service _ p.supply.meters)

pub points_end : (service : Service) (at : ℕ) (before : Option PointHead) (ps : List Point) → ends at (point_records service before ps) ≡ after_points at ps
unfolding after point_records width
points_end service at before [] = refl
points_end service at before (p ∷ ps) =
    ends_append (transfers_from at) (inside service p) (point_records service (some (point_head p)) ps)
    ∙ (ap (λ k. ends k (point_records service (some (point_head p)) ps)) (inside_end service at p) ∙ points_end service (after_point at p) (some (point_head p)) ps)

-- A WHOLE FILE
-- the records after the header
abbrev pub after_header : File → List Record
after_header f = in_turn band none f.tariff.bands ++ point_records f.tariff.service none f.points

-- the header ends where the bands begin, whatever the width of the count
header_end : (form : Form) (h : Header) → 0 + width (header form h) ≡ bands_at form
unfolding width
header_end form h = omega arith

pub placed_file : (form : Form) (f : File) →
    placed 0 (file_records form f)
    ≡ record { what = header form (file_header f); next = bands_at form } ∷ placed (bands_at form) (after_header f)
unfolding file_records placed
placed_file form f = ap (λ k. record { what = header form (file_header f); next = k } ∷ placed k (after_header f)) (header_end form (file_header f))

-- what stands after the last record, by the positions of `File`
pub points_last : (form : Form) (file : List ℕ) →
    records_end form file ≡ after_points (after_bands (bands_at form) (decode_in form file).tariff.bands) (decode_in form file).points
unfolding file_records after
points_last form file =
    let f = decode_in form file in
    let t = f.tariff in
    let from = bands_at form in
    let bs = in_turn band none t.bands in
    let ps = point_records t.service none f.points in
    ap (λ k. ends k (after_header f)) (header_end form (file_header f))
    ∙ (ends_append from bs ps ∙ (ap (λ k. ends k ps) (bands_end from t.bands) ∙ points_end t.service (after_bands from t.bands) none f.points))
