-- An advance: what its days carry up to a day, and what some of them carry together. Assumes nothing.
use Prim.Native.Nat.{ℕ, zero, suc, ◌+◌, ◌-◌, ◌*◌, ◌/◌, ◌≤◌, ◌<◌, min}
use mathlib.Core.Path.{◌≡◌, refl, sym, ap, ◌∙◌, subst}
use mathlib.Core.List.{List, [], ◌∷◌}
use native.Mathlib.Nat.{le_refl, pow-le-pow_right, mul-le-mul, mul-le-mul_left, mul-zero, zero-div, mul-div-mul_right}
use native.Mathlib.Omega.{arith}
use lib.ListN.{length}
use Rattle.rules.specs.declared.Read.{Read}
use Rattle.rules.specs.declared.MeterHead.{MeterHead}
use Rattle.rules.specs.Sums.{only, over_days}
use Rattle.rules.specs.Lists.{All}
use Rattle.rules.specs.File.{Meter, records, after, meter_head, read_at, reads, after_read, after_reads}
use Rattle.rules.specs.Litres.{dial_values, litres_per_count, advance, carried_before, between_reads, from_reads, meter_litres}
use Rattle.rules.specs.Good.{GoodMeterHead, GoodRead, GoodAdvance, GoodAdvances, GoodMeter}
use Rattle.rules.proofs.Shares.{div_mono, days_none}
use Rattle.rules.proofs.Sums.{days_shift}
use Rattle.rules.proofs.Positions.{length_records}
use Rattle.records.proofs.Ahead.{Ahead, read_one, read_past, ahead_done}
use Rattle.spans.specs.declared.Span.{Span}
use Rattle.spans.specs.Spans.{end_in, Cut, Reached, Holds, SumsAdded, RoomAt, Sum, litres_sum, annual_sum, allowance_sum, threshold_sum, litres_of, during, Grown, Room}
use Rattle.spans.proofs.Days.{during_zero, during_entry, span_within, grown_on, grown_none, room_on, adding_none, adding_room, adding_more, adding_done, reached_first, cut_kept, reached_kept, reached_before, Rest, rest_all, rest_room, rest_more, rest_none}
use Rattle.meters.specs.declared.advance.Advance.{Advance}
use Rattle.meters.specs.Spreadable.{Spreadable}
use Rattle.meters.specs.Meters.{carried, spread, spread_of, meter_of, AdvanceOf}

-- WHAT THE FIRST DAYS CARRY
pub carried_none : (litres parts n : ℕ) {j : ℕ} → j ≡ 0 → 0 ≡ carried_before litres parts n j
unfolding carried_before
carried_none litres parts n z = rw z (simp (mul-zero, zero-div))

pub carried_all : (litres parts n : ℕ) {j : ℕ} → 0 < n → j ≡ n → litres * parts / 10000 ≡ carried_before litres parts n j
unfolding carried_before
carried_all litres parts n h e = rw e (sym (mul-div-mul_right {m = n} (litres * parts) 10000 h))

pub carried_grows : (litres parts n x y : ℕ) → x ≤ y → carried_before litres parts n x ≤ carried_before litres parts n y
unfolding carried_before
carried_grows litres parts n x y h = div_mono (10000 * n) (mul-le-mul_left (litres * parts) h)

-- litres of an entry's day, as one of the sums
abbrev pub litres_at : ℕ → (ℕ → ℕ) → Sum → ℕ → ℕ
litres_at start f q i = litres_of (f (start + i)) q

-- WHAT SOME DAYS OF AN ADVANCE CARRY
module _ (a : Advance) where
  -- those before a day
  abbrev pub carried_to : ℕ → ℕ
  carried_to d = carried_before a.litres a.parts (a.last - a.first) (d - a.first)

  -- a day of it
  abbrev pub carried_on : ℕ → ℕ
  carried_on d = carried a.litres a.parts a.first a.last d

  pub carried_later : {x y up below : ℕ} → below ≡ carried_to x → up ≡ carried_to y → x ≤ y → below ≤ up
  carried_later {x} {y} b u h = omega (arith, carried_grows a.litres a.parts (a.last - a.first) (x - a.first) (y - a.first) (omega arith))

  pub days_carry : (d k : ℕ) → a.first ≤ d → carried_to (d + k) ≡ carried_to d + over_days d k carried_on
  unfolding over_days carried
  days_carry d zero h = grind arith
  days_carry d (suc k) h = grind (arith, days_carry d k h, carried_grows a.litres a.parts (a.last - a.first) (d + k - a.first) (d + k - a.first + 1) (omega arith))

  -- those of the entries from i on, before `stop`, as one of the sums; the day of entry i is start + i
  pub piece_is : (start i stop : ℕ) {x up below : ℕ} → a.first ≤ start + i → i ≤ stop → x ≡ up - below → up ≡ carried_to (start + stop) → below ≡ carried_to (start + i) →
      (q : Sum) → litres_of x q ≡ over_days i (stop - i) (litres_at start carried_on q)
  piece_is start i stop h k e u b litres_sum = grind (arith, days_carry (start + i) (stop - i) h, days_shift start i (stop - i) carried_on)
  piece_is start i stop h k e u b annual_sum = sym (days_none _ _)
  piece_is start i stop h k e u b allowance_sum = sym (days_none _ _)
  piece_is start i stop h k e u b threshold_sum = sym (days_none _ _)

-- AN ADVANCE BY THE ENTRIES of its days, of n from `start` on
module _ (start : ℕ) (a : Advance) {n from to : ℕ} (low : from ≡ min (a.first - start) n) (top : to ≡ min (a.last - start) n) where
  pub spread_entry : (q : Sum) (i : ℕ) → i < n → during from to (litres_at start (carried_on a) q) i ≡ litres_at start (spread_of a) q i
  unfolding spread
  spread_entry litres_sum i h = rw (low, top) (during_entry n start a.first a.last (carried_on a) i h)
  spread_entry annual_sum i h = during_zero _ _ i
  spread_entry allowance_sum i h = during_zero _ _ i
  spread_entry threshold_sum i h = during_zero _ _ i

  module _ {l : List Span} (cut : Cut l n (length l)) where
    pub entries_room : Room l (length l) (litres_at start (spread_of a)) → Room l (length l) (λ q. during from to (litres_at start (carried_on a) q))
    entries_room r = room_on cut (λ q i h. sym (spread_entry q i h)) r

    pub entries_grown : {next : List Span} → Grown l next (length l) (λ q. during from to (litres_at start (carried_on a) q)) → Grown l next (length l) (litres_at start (spread_of a))
    entries_grown g = grown_on cut spread_entry g

-- ONE SPAN that holds all days of an advance has it whole
module _ (start : ℕ) (a : Advance) {n : ℕ} {l : List Span} {s : ℕ} (cut : Cut l n (length l)) (r : Reached l (length l) s (min (a.first - start) n))
    (holds : (s < length l) × (start ≤ a.first) × (a.last - start ≤ end_in l s)) where
  abbrev from : ℕ
  from = min (a.first - start) n

  abbrev to : ℕ
  to = min (a.last - start) n

  some_day : from < to
  some_day = omega (arith, a.spreadable.some, holds.1, holds.2, span_within cut s holds.0)

  held : Holds l (length l) from s
  held = record { within = holds.0; begun = r.begun; lasts = omega (arith, some_day, holds.2) }

  stops : to ≡ min (end_in l s) to
  stops = omega (arith, holds.2)

  whole : (q : Sum) → litres_of (a.litres * a.parts / 10000) q ≡ over_days from (to - from) (litres_at start (carried_on a) q)
  whole =
      piece_is a start from to {up = a.litres * a.parts / 10000} {below = 0} (omega (arith, holds.1, some_day)) (omega (arith, some_day)) (omega arith)
      (carried_all a.litres a.parts (a.last - a.first) (omega (arith, a.spreadable.some)) (omega (arith, a.spreadable.some, holds.1, holds.2, span_within cut s holds.0)))
      (carried_none a.litres a.parts (a.last - a.first) (omega (arith, holds.1)))

  pub whole_room : Room l (length l) (litres_at start (spread_of a)) → RoomAt l s (litres_of (a.litres * a.parts / 10000))
  whole_room room = adding_room (adding_none to _ r) cut some_day held stops whole (entries_room start a refl refl cut room)

  pub whole_added : {next : List Span} → SumsAdded l next s (litres_of (a.litres * a.parts / 10000)) → Grown l next (length l) (litres_at start (spread_of a))
  whole_added v = entries_grown start a refl refl cut (adding_done (adding_more (adding_none to _ r) cut some_day held stops whole v) (le_refl to))

-- BETWEEN TWO READS
dial_most : {m : MeterHead} → GoodMeterHead m → dial_values m.digits ≤ 100000000
unfolding dial_values
dial_most g = pow-le-pow_right {n = 10} (omega arith) g.digits_to

-- what fits in the counts and litres between two reads, on a dial of so many values
pub record AdvanceFits (dial : ℕ) (a b : Read) : Type 0 where
  pub sum : b.value + only b.rollover dial < 200000000
  pub forward : a.value ≤ b.value + only b.rollover dial
  pub litres : (b.value + only b.rollover dial - a.value) * 1000 ≤ 100000000000

pub advance_fits : {m : MeterHead} {a b : Read} {dial : ℕ} → dial ≡ dial_values m.digits → GoodMeterHead m → GoodRead m a → GoodAdvance m a b → AdvanceFits dial a b
advance_fits {b = b} e g r v =
    let rolled = ap (only b.rollover) e in
    let most = dial_most g in
    record { sum = omega (arith, r.small, v.small); forward = omega (arith, v.forward); litres = omega (arith, v.small) }

pub parts_most : {m : MeterHead} → GoodMeterHead m → m.share * m.returned ≤ 10000
parts_most g = omega (arith, mul-le-mul g.share g.returned)

pub spreadable : {m : MeterHead} {a b : Read} {litres : ℕ} → GoodMeterHead m → GoodAdvance m a b → litres ≤ 100000000000 → Spreadable litres (m.share * m.returned) a.day b.day
spreadable g v h = record { few = h; whole = parts_most g; some = v.later; near = v.near }

pub pair_spreads : (m : Meter) (a b : Read) → GoodMeter m → GoodRead (meter_head m) a → GoodAdvance (meter_head m) a b → Spreadable (advance m a b) (m.share * m.returned) a.day b.day
unfolding advance litres_per_count
pair_spreads m a b g r v = spreadable g.head v (advance_fits refl g.head r v).litres

-- the advance of two successive reads is spread over its days
pub between_is : (m : Meter) (a b : Read) (d : ℕ) → between_reads m a b d ≡ spread (advance m a b) (m.share * m.returned) a.day b.day d
unfolding between_reads spread during carried
between_is m a b d = refl

-- the other reads don't enter it
advance_alone : (m : MeterHead) (rs : List Read) (a b : Read) → advance (meter_of m rs) a b ≡ advance (meter_of m []) a b
unfolding advance
advance_alone m rs a b = refl

advance_spread : (m : MeterHead) (rs : List Read) (earlier later : Read) {a : Advance} → AdvanceOf m earlier later a → (d : ℕ) → between_reads (meter_of m rs) earlier later d ≡ spread_of a d
advance_spread m rs earlier later u d = between_is (meter_of m rs) earlier later d ∙ rw (u.litres, u.parts, u.first, u.last, advance_alone m rs earlier later) refl

litres_split : (q : Sum) {x : ℕ} (y z : ℕ) → x ≡ y + z → litres_of x q ≡ litres_of y q + litres_of z q
litres_split litres_sum y z e = e
litres_split annual_sum y z e = refl
litres_split allowance_sum y z e = refl
litres_split threshold_sum y z e = refl

litres_zero : (q : Sum) → litres_of 0 q ≡ 0
litres_zero litres_sum = refl
litres_zero annual_sum = refl
litres_zero allowance_sum = refl
litres_zero threshold_sum = refl

-- what is left of a meter's reads, after `earlier`; `rs` are all of them. The next advance begins at a span that is reached
pub record ReadsLeft (m : MeterHead) (rs : List Read) (earlier : Read) (before after : List Span) (n start s : ℕ) (left : List Read) : Type 0 where
  pub sound : GoodMeterHead m
  pub each : All (GoodRead m) (earlier ∷ left)
  pub advances : GoodAdvances m (earlier ∷ left)
  pub room : Room before (length before) (litres_at start (meter_litres (meter_of m rs)))
  pub rest : Rest before after (litres_at start (from_reads (meter_of m rs) (earlier ∷ left))) (litres_at start (meter_litres (meter_of m rs)))
  pub reached : Reached before (length before) s (min (earlier.day - start) n)

module _ {m : MeterHead} {rs left : List Read} {earlier later : Read} {before after : List Span} {n start s : ℕ} {advance : Advance} (of : AdvanceOf m earlier later advance)
    (u : ReadsLeft m rs earlier before after n start s (later ∷ left)) where
  next_read : (q : Sum) (i : ℕ) → litres_at start (from_reads (meter_of m rs) (earlier ∷ later ∷ left)) q i ≡ litres_at start (spread_of advance) q i + litres_at start (from_reads (meter_of m rs) (later ∷ left)) q i
  unfolding from_reads
  next_read q i = litres_split q _ _ (ap (λ x. x + from_reads (meter_of m rs) (later ∷ left) (start + i)) (advance_spread m rs earlier later of (start + i)))

  -- what `spread_advance` asks
  pub reads_ask : Cut before n (length before) → Cut after n (length after) × (Reached after (length after) s (min (advance.first - start) n) × Room after (length after) (litres_at start (spread_of advance)))
  reads_ask cut = (
    cut_kept u.rest.kept cut,
    (reached_kept u.rest.kept u.reached (omega (arith, of.first)), rest_room u.rest u.room (λ q i. omega (arith, next_read q i))),
  )

  pub reads_turn : {next : List Span} {t : ℕ} → Grown after next (length after) (litres_at start (spread_of advance)) → Reached after (length after) t (min (advance.last - start) n) → ReadsLeft m rs later before next n start t left
  reads_turn g r =
      record {
        sound = u.sound;
        each = u.each.1;
        advances = u.advances.1;
        room = u.room;
        rest = rest_more u.rest g next_read;
        reached = reached_before u.rest.kept r (omega (arith, of.last));
      }

reads_end : {m : MeterHead} {rs : List Read} {earlier : Read} {before after : List Span} {n start s : ℕ} → ReadsLeft m rs earlier before after n start s [] → Grown before after (length before) (litres_at start (meter_litres (meter_of m rs)))
unfolding from_reads
reads_end u = rest_none u.rest (λ q i. litres_zero q)

pub no_reads : (file : List ℕ) (m : MeterHead) (n at start : ℕ) {l : List Span} → n ≡ 0 → (at ≡ after_reads at (reads file n at)) × Grown l l (length l) (litres_at start (meter_litres (meter_of m (reads file n at))))
unfolding records after meter_litres from_reads
no_reads file m n at start {l} z =
    subst (λ n. (at ≡ after_reads at (reads file n at)) × Grown l l (length l) (litres_at start (meter_litres (meter_of m (reads file n at))))) (sym z)
    (refl, grown_none (λ q i. litres_zero q))

module _ (file : List ℕ) (m : MeterHead) (at start n : ℕ) where
  abbrev all : List Read
  all = reads file m.reads at

  -- the head of a meter of as many reads as it says
  head_is : meter_head (meter_of m all) ≡ m
  head_is =
      ap (λ n. record { size = m.size; share = m.share; returned = m.returned; digits = m.digits; installed = m.installed; removed = m.removed; reads = n })
      (length_records (read_at file) (λ at r. after_read at) m.reads at)

  -- the first read
  module _ {first : Read} {next : ℕ} (h : 0 < m.reads) (e : (first ≡ read_at file at) × (next ≡ after_read at)) where
    abbrev later : List Read
    later = reads file (m.reads - 1) next

    begins : all ≡ first ∷ later
    begins = read_one (read_at file) (λ at r. after_read at) m.reads at h e

    pub reads_begin : {l : List Span} → GoodMeter (meter_of m all) → Room l (length l) (litres_at start (meter_litres (meter_of m all))) →
        Ahead (read_at file) (λ at r. after_read at) (m.reads - 1) next (after_reads next later) (ReadsLeft m (first ∷ later) first l l n start 0)
    unfolding meter_litres
    reads_begin {l} g r =
        let sound : GoodMeterHead m = subst GoodMeterHead head_is g.head in
        let each : All (GoodRead m) all = subst (λ h. All (GoodRead h) all) head_is g.reads in
        let advances : GoodAdvances m all = subst (λ h. GoodAdvances h all) head_is g.advances in
        record {
          ends = refl;
          holds =
              record {
                sound = sound;
                each = subst (All (GoodRead m)) begins each;
                advances = subst (GoodAdvances m) begins advances;
                room = subst (λ rs. Room l (length l) (litres_at start (meter_litres (meter_of m rs)))) begins r;
                rest = rest_all;
                reached = reached_first _ _ _;
              };
        }

    pub reads_done : {before after : List Span} {left last s : ℕ} {earlier : Read} → left ≡ 0 →
        Ahead (read_at file) (λ at r. after_read at) left last (after_reads next later) (ReadsLeft m (first ∷ later) earlier before after n start s) →
        (last ≡ after_reads at all) × Grown before after (length before) (litres_at start (meter_litres (meter_of m all)))
    reads_done {before} {after} z u =
        let v = ahead_done u z in
        (v.0 ∙ sym (read_past (read_at file) (λ at r. after_read at) m.reads at h e), subst (λ rs. Grown before after (length before) (litres_at start (meter_litres (meter_of m rs)))) (sym begins) (reads_end v.1))
