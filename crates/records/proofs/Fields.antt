-- A record from what its fields are, on plain variables, where `cc` is quick: what the readers' proofs cite. Assumes nothing.
use Prim.Native.Nat.{ℕ, ◌+◌, ◌-◌, ◌/◌, ◌%◌, ◌^◌, ◌≤◌}
use mathlib.Core.Path.{◌≡◌, refl, sym, ◌∙◌, ap}
use mathlib.Core.List.{List}
use native.Mathlib.Omega.{arith}
use lib.Dec.{eqb}
use Rattle.bits.specs.Took.{Took}
use Rattle.bits.specs.CutOut.{CutOut}
use Rattle.rules.specs.Field.{field}
use Rattle.rules.proofs.Fields.{field_part}
use Rattle.rules.specs.declared.Service.{Service}
use Rattle.rules.specs.declared.Form.{Form}
use Rattle.rules.specs.Form.{form_of, form_at}
use Rattle.rules.specs.declared.Header.{Header}
use Rattle.rules.specs.declared.Band.{Band}
use Rattle.rules.specs.declared.PointHead.{PointHead}
use Rattle.rules.specs.declared.Transfer.{Transfer}
use Rattle.rules.specs.declared.Condition.{Condition}
use Rattle.records.specs.declared.Groups.{Groups}
use Rattle.records.specs.Conditions.{condition_of}
use Rattle.rules.specs.declared.MeterHead.{MeterHead}
use Rattle.rules.specs.declared.Read.{Read}
use Rattle.rules.specs.File.{service_of, header_at, band_at, point_head_at, transfer_at, condition_at, meter_head_at, read_at, bands_from, after_band, transfers_from, after_transfer, after_condition, reads_from, after_read}

-- a field that is cut out of a group: it ends `below` bits before the group does
cut_field : {b : List ℕ} {here wide group next width below value : ℕ} (at : ℕ) → Took b here wide group next → CutOut group width below value
    → here ≤ at → at + width + below ≡ next → value ≡ field b at width
cut_field {b} {here} {wide} {group} {next} {width} {below} at t p l e =
    p.is ∙ ap (λ (g : ℕ). g / 2 ^ below % 2 ^ width) (t.is ∙ ap (λ (n : ℕ). field b here n) parts)
    ∙ field_part b here (at - here) width below ∙ ap (λ (a : ℕ). field b a width) (omega arith)
  where
    parts : wide ≡ at - here + width + below
    parts = omega (arith, t.after)

-- the header, whose count of points was taken by the width of its version's form
pub header_taken : {b : List ℕ} {mark version bit year bands points property roads capacity standard opening prices rates a1 a2 a3 a4 : ℕ} {service : Service} {form : Form}
    → form ≡ form_of version
    → Took b 0 38 opening a1 → Took b a1 form.count_bits points a2 → Took b a2 28 prices a3 → Took b a3 34 rates a4
    → CutOut opening 4 18 version → CutOut opening 16 22 mark → CutOut opening 1 17 bit → service ≡ service_of bit → CutOut opening 12 5 year → CutOut opening 5 0 bands → CutOut prices 14 14 property → CutOut prices 14 0 roads → CutOut rates 17 17 capacity → CutOut rates 17 0 standard
    → (◌≡◌ {A = Header} (record { mark = mark; version = version; service = service; year = year; bands = bands; points = points; property = property; roads = roads; capacity = capacity; standard = standard }) (header_at b)) × (a4 ≡ bands_from b)
header_taken {b} {form = form} f t1 t2 t3 t4 c1 c2 c3 e c4 c5 c6 c7 c8 c9 =
    let wide = form.count_bits in
    let s1 = cut_field 16 t1 c1 (omega arith) (omega arith) in
    let s2 = cut_field 0 t1 c2 (omega arith) (omega arith) in
    let s3 = cut_field 20 t1 c3 (omega arith) (omega arith) in
    let s4 = cut_field 21 t1 c4 (omega arith) (omega arith) in
    let s5 = cut_field 33 t1 c5 (omega arith) (omega arith) in
    let count = t2.is ∙ ap (λ (at : ℕ). field b at wide) t1.after in
    let s6 = cut_field (38 + wide) t3 c6 (omega arith) (omega arith) in
    let s7 = cut_field (38 + wide + 14) t3 c7 (omega arith) (omega arith) in
    let s8 = cut_field (38 + wide + 28) t4 c8 (omega arith) (omega arith) in
    let s9 = cut_field (38 + wide + 45) t4 c9 (omega arith) (omega arith) in
    let own : form_at b ≡ form = sym (f ∙ ap form_of s1) in
    rw own (cc, omega arith)

pub band_taken : {b : List ℕ} {at size annual allowance threshold charge limits a1 a2 : ℕ}
    → Took b at 46 charge a1 → Took b a1 44 limits a2
    → CutOut charge 16 30 size → CutOut charge 30 0 annual → CutOut limits 20 24 allowance → CutOut limits 24 0 threshold
    → (◌≡◌ {A = Band} (record { size = size; annual = annual; allowance = allowance; threshold = threshold }) (band_at b at)) × (a2 ≡ after_band at)
band_taken {at = at} t1 t2 c1 c2 c3 c4 =
    let s1 = cut_field at t1 c1 (omega arith) (omega arith) in
    let s2 = cut_field (at + 16) t1 c2 (omega arith) (omega arith) in
    let s3 = cut_field (at + 46) t2 c3 (omega arith) (omega arith) in
    let s4 = cut_field (at + 66) t2 c4 (omega arith) (omega arith) in
    (cc, omega arith)

pub point_taken : {b : List ℕ} {at number connected disconnected transfers conditions meters days_and_counts a1 a2 : ℕ}
    → Took b at 32 number a1 → Took b a1 48 days_and_counts a2
    → CutOut days_and_counts 16 32 connected → CutOut days_and_counts 16 16 disconnected → CutOut days_and_counts 5 11 transfers → CutOut days_and_counts 6 5 conditions → CutOut days_and_counts 5 0 meters
    → (◌≡◌ {A = PointHead} (record { number = number; connected = connected; disconnected = disconnected; transfers = transfers; conditions = conditions; meters = meters }) (point_head_at b at)) × (a2 ≡ transfers_from at)
point_taken {at = at} t1 t2 c1 c2 c3 c4 c5 =
    let s1 = cut_field (at + 32) t2 c1 (omega arith) (omega arith) in
    let s2 = cut_field (at + 48) t2 c2 (omega arith) (omega arith) in
    let s3 = cut_field (at + 64) t2 c3 (omega arith) (omega arith) in
    let s4 = cut_field (at + 69) t2 c4 (omega arith) (omega arith) in
    let s5 = cut_field (at + 75) t2 c5 (omega arith) (omega arith) in
    (cc, omega arith)

pub transfer_taken : {b : List ℕ} {at day provider day_and_provider a1 : ℕ}
    → Took b at 32 day_and_provider a1
    → CutOut day_and_provider 16 16 day → CutOut day_and_provider 16 0 provider
    → (◌≡◌ {A = Transfer} (record { day = day; provider = provider }) (transfer_at b at)) × (a1 ≡ after_transfer at)
transfer_taken {at = at} t1 c1 c2 =
    let s1 = cut_field at t1 c1 (omega arith) (omega arith) in
    let s2 = cut_field (at + 16) t1 c2 (omega arith) (omega arith) in
    (cc, omega arith)

-- a condition of its groups, and its groups as they are taken
pub condition_cut : {g : Groups} {day vacant disconnected property roads schedule3 section29e : ℕ}
    → CutOut g.state 16 32 day → CutOut g.state 1 31 vacant → CutOut g.state 1 30 disconnected → CutOut g.state 1 29 property → CutOut g.state 1 28 roads → CutOut g.state 14 14 schedule3 → CutOut g.state 14 0 section29e
    → ◌≡◌ {A = Condition} (record { day = day; vacant = eqb vacant 1; disconnected = eqb disconnected 1; property = eqb property 1; roads = eqb roads 1; schedule3 = schedule3; section29e = section29e; rateable = g.rateable }) (condition_of g)
unfolding condition_of
condition_cut c1 c2 c3 c4 c5 c6 c7 =
    let s1 = c1.is in
    let s2 = c2.is in
    let s3 = c3.is in
    let s4 = c4.is in
    let s5 = c5.is in
    let s6 = c6.is in
    let s7 = c7.is in
    cc

pub condition_taken : {b : List ℕ} {at state rateable a1 a2 : ℕ}
    → Took b at 48 state a1 → Took b a1 24 rateable a2
    → (condition_of (record { state = state; rateable = rateable }) ≡ condition_at b at) × (a2 ≡ after_condition at)
unfolding condition_of
condition_taken {b} {at} {state} {rateable} {a1} t1 t2 =
    let cut : (width below : ℕ) → CutOut state width below (state / 2 ^ below % 2 ^ width) = λ width below. record { is = refl } in
    let s1 = cut_field at t1 (cut 16 32) (omega arith) (omega arith) in
    let s2 = cut_field (at + 16) t1 (cut 1 31) (omega arith) (omega arith) in
    let s3 = cut_field (at + 17) t1 (cut 1 30) (omega arith) (omega arith) in
    let s4 = cut_field (at + 18) t1 (cut 1 29) (omega arith) (omega arith) in
    let s5 = cut_field (at + 19) t1 (cut 1 28) (omega arith) (omega arith) in
    let s6 = cut_field (at + 20) t1 (cut 14 14) (omega arith) (omega arith) in
    let s7 = cut_field (at + 34) t1 (cut 14 0) (omega arith) (omega arith) in
    let s8 : rateable ≡ field b (at + 48) 24 = t2.is ∙ ap (λ p. field b p 24) (omega (arith, t1.after)) in
    (cc, omega (arith, t1.after, t2.after))

pub meter_taken : {b : List ℕ} {at size share returned digits installed removed reads details a1 a2 : ℕ}
    → Took b at 16 size a1 → Took b a1 56 details a2
    → CutOut details 7 49 share → CutOut details 7 42 returned → CutOut details 4 38 digits → CutOut details 16 22 installed → CutOut details 16 6 removed → CutOut details 6 0 reads
    → (◌≡◌ {A = MeterHead} (record { size = size; share = share; returned = returned; digits = digits; installed = installed; removed = removed; reads = reads }) (meter_head_at b at)) × (a2 ≡ reads_from at)
meter_taken {at = at} t1 t2 c1 c2 c3 c4 c5 c6 =
    let s1 = cut_field (at + 16) t2 c1 (omega arith) (omega arith) in
    let s2 = cut_field (at + 23) t2 c2 (omega arith) (omega arith) in
    let s3 = cut_field (at + 30) t2 c3 (omega arith) (omega arith) in
    let s4 = cut_field (at + 34) t2 c4 (omega arith) (omega arith) in
    let s5 = cut_field (at + 50) t2 c5 (omega arith) (omega arith) in
    let s6 = cut_field (at + 66) t2 c6 (omega arith) (omega arith) in
    (cc, omega arith)

pub read_taken : {b : List ℕ} {at day rollover value whole a1 : ℕ}
    → Took b at 44 whole a1
    → CutOut whole 16 28 day → CutOut whole 1 27 rollover → CutOut whole 27 0 value
    → (◌≡◌ {A = Read} (record { day = day; rollover = eqb rollover 1; value = value }) (read_at b at)) × (a1 ≡ after_read at)
read_taken {at = at} t1 c1 c2 c3 =
    let s1 = cut_field at t1 c1 (omega arith) (omega arith) in
    let s2 = cut_field (at + 16) t1 c2 (omega arith) (omega arith) in
    let s3 = cut_field (at + 17) t1 c3 (omega arith) (omega arith) in
    (cc, omega arith)
