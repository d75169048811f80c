-- Meters added to spans, one at a time. Assumes nothing.
use Prim.Native.Nat.{ℕ, ◌+◌, ◌-◌, ◌*◌, ◌^◌, ◌≤◌, ◌<◌, min}
use mathlib.Core.Path.{◌≡◌, refl, sym, ap, ◌∙◌}
use mathlib.Core.List.{List, [], ◌∷◌}
use native.Mathlib.Nat.{mul-le-mul, mul-le-mul_left}
use native.Mathlib.Omega.{arith}
use lib.ListN.{length}
use Rattle.rules.specs.declared.Band.{Band}
use Rattle.rules.specs.declared.MeterHead.{MeterHead}
use Rattle.std.proofs.lemmas.Bool.Decides.{nat_tests}
use Rattle.rules.specs.Sums.{only, over}
use Rattle.rules.specs.Lists.{All}
use Rattle.rules.specs.File.{Meter, meter_head_at, reads, reads_from, meter_at}
use Rattle.rules.specs.Litres.{meter_litres}
use Rattle.rules.specs.Charges.{band_for}
use Rattle.rules.specs.Good.{GoodBand, GoodMeter}
use Rattle.rules.proofs.Shares.{days_eq}
use Rattle.rules.proofs.Sums.{days_each}
use Rattle.spans.specs.declared.Figures.{Figures}
use Rattle.spans.specs.declared.Span.{Span}
use Rattle.spans.specs.Spans.{Sums, end_in, begin_in, Cut, Sum, litres_sum, annual_sum, allowance_sum, threshold_sum, sum_in, Kept, figure_of, during, over_span, Grown, Room}
use Rattle.spans.proofs.Days.{during_zero, during_entry, span_within, begin_same, end_same, over_same, cut_kept, reached_first, kept_all, kept_both, grown_on, room_on, over_eq, over_le, over_add, over_none, over_is}
use Rattle.meters.specs.Meters.{meter_of, weighed, Weights, meter_figure, sum_with, GrownWith, RoomWith, SumsClear, MetersIn}
use Rattle.meters.proofs.Advances.{litres_at}
use Rattle.meters.proofs.Bounds.{Figure, annual_figure, allowance_figure, threshold_figure, band_most, meters_most}

-- SUMS BESIDES
module _ (every : Figures) {before after : List Span} (kept : Kept before after) where
  sum_kept : (q : Sum) (s x : ℕ) → sum_in after q s ≡ sum_in before q s + x → sum_with every after q s ≡ sum_with every before q s + x
  unfolding sum_with
  sum_kept q s x e = omega (arith, e, ap (λ d. figure_of every q * d) {x = end_in after s - begin_in after s} {y = end_in before s - begin_in before s} (omega (arith, begin_same kept s, end_same kept s)))

pub grown_with : (every : Figures) {before after : List Span} {m : ℕ} {f : Sum → ℕ → ℕ} → Grown before after m f → GrownWith every every before after m f
grown_with every g = record { kept = g.kept; sums = λ q s h. sum_kept every g.kept q s _ (g.sums q s h) }

pub room_alone : (every : Figures) {spans : List Span} {m : ℕ} {f : Sum → ℕ → ℕ} → RoomWith every spans m f → Room spans m f
unfolding sum_with
room_alone every r = record { fits = λ q s h. omega (arith, r.fits q s h) }

-- there is room for less
pub room_less : (every : Figures) {spans : List Span} {m : ℕ} {f g : Sum → ℕ → ℕ} → RoomWith every spans m f → ((q : Sum) (i : ℕ) → g q i ≤ f q i) → RoomWith every spans m g
room_less every {spans} {f = f} {g} r h = record { fits = λ q s k. omega (arith, r.fits q s k, over_le spans s (g q) (f q) (h q)) }

-- one after the other
pub with_both : {e₁ e₂ e₃ : Figures} {a b c : List Span} {f g h : Sum → ℕ → ℕ} → GrownWith e₁ e₂ a b (length a) f → GrownWith e₂ e₃ b c (length b) g → ((q : Sum) (i : ℕ) → h q i ≡ f q i + g q i) →
    GrownWith e₁ e₃ a c (length a) h
with_both {a = a} {f = f} {g} u v e =
    record {
      kept = kept_both u.kept v.kept;
      sums = λ q s k. omega (arith, v.sums q s (omega (arith, u.kept.long)), u.sums q s k, over_same u.kept s (g q), over_add a s (f q) (g q), over_eq a s (λ i _ _. e q i));
    }

room_after : {e₁ e₂ : Figures} {a b : List Span} {f g h : Sum → ℕ → ℕ} → GrownWith e₁ e₂ a b (length a) f → RoomWith e₁ a (length a) h → ((q : Sum) (i : ℕ) → h q i ≡ f q i + g q i) → RoomWith e₂ b (length b) g
room_after {a = a} {f = f} {g} u r e =
    record {
      fits = λ q s k.
          let k' : s < length a = omega (arith, u.kept.long) in
          omega (arith, u.sums q s k', r.fits q s k', over_same u.kept s (g q), over_add a s (f q) (g q), over_eq a s (λ i _ _. e q i));
    }

-- FIGURES ON A METER'S DAYS
module _ (start first last : ℕ) (each every : Figures) {n : ℕ} {spans : List Span} (cut : Cut spans n (length spans)) where
  abbrev on : Sum → ℕ → ℕ
  on q i = during first last (λ d. figure_of each q) (start + i)

  module _ {from to : ℕ} (low : from ≡ min (first - start) n) (top : to ≡ min (last - start) n) where
    entries : (q : Sum) (i : ℕ) → i < n → during from to (λ i. figure_of each q) i ≡ on q i
    entries q i h = rw (low, top) (during_entry n start first last (λ d. figure_of each q) i h)

    -- they are added to the spans
    pub figures_ask : RoomWith every spans (length spans) on → Room spans (length spans) (λ q. during from to (λ i. figure_of each q))
    figures_ask r = room_on cut (λ q i h. sym (entries q i h)) (room_alone every r)

    pub figures_put : {after : List Span} → Grown spans after (length spans) (λ q. during from to (λ i. figure_of each q)) → GrownWith every every spans after (length spans) on
    figures_put g = grown_with every (grown_on cut entries g)

    -- or they are on all days, of which there is one
    module _ (all : (from ≡ 0) × (to ≡ n) × (0 < to)) where
      on_day : (q : Sum) (i : ℕ) → i < n → on q i ≡ figure_of each q
      unfolding during only
      on_day q i h = grind (arith, nat_tests, all.0, all.1, all.2)

      on_span : (q : Sum) (s : ℕ) → s < length spans → over_span spans s (on q) ≡ figure_of each q * (end_in spans s - begin_in spans s)
      unfolding over_span
      on_span q s h =
          days_eq _ _ (λ i a b. on_day q i (omega (arith, span_within cut s h, cut.some s h)))
          ∙ sym (days_each (figure_of each q) (begin_in spans s) (end_in spans s - begin_in spans s))

      some_span : 0 < length spans
      some_span = grind (arith, (reached_first spans (length spans) 0).begun, cut.all, all.1, all.2)

      sum_fits : RoomWith every spans (length spans) on → (q : Sum) → figure_of every q + figure_of each q < 2 ^ 64
      unfolding sum_with
      sum_fits r q =
          let d = end_in spans 0 - begin_in spans 0 in
          let one : 1 ≤ d = omega (arith, cut.some 0 some_span) in
          omega (
            arith,
            r.fits q 0 some_span,
            on_span q 0 some_span,
            mul-le-mul_left (figure_of every q) one,
            mul-le-mul_left (figure_of each q) one,
          )

      pub every_fits : RoomWith every spans (length spans) on → (every.annual + each.annual < 2 ^ 64) × (every.allowance + each.allowance < 2 ^ 64) × (every.threshold + each.threshold < 2 ^ 64)
      every_fits r = (sum_fits r annual_sum, sum_fits r allowance_sum, sum_fits r threshold_sum)

      pub figures_every : {sums : Figures} → Sums every each sums → GrownWith every sums spans spans (length spans) on
      unfolding sum_with
      figures_every {sums} u = record { kept = kept_all; sums = λ q s h. omega (arith, on_span q s h, more q s) }
        where
          more : (q : Sum) (s : ℕ) → figure_of sums q * (end_in spans s - begin_in spans s) ≡ figure_of every q * (end_in spans s - begin_in spans s) + figure_of each q * (end_in spans s - begin_in spans s)
          more litres_sum s = omega arith
          more annual_sum s = omega (arith, ap (λ x. x * (end_in spans s - begin_in spans s)) u.annual)
          more allowance_sum s = omega (arith, ap (λ x. x * (end_in spans s - begin_in spans s)) u.allowance)
          more threshold_sum s = omega (arith, ap (λ x. x * (end_in spans s - begin_in spans s)) u.threshold)

-- ONE METER, from its head
module _ (file : List ℕ) (at : ℕ) {next : ℕ} {head : MeterHead} (e : (head ≡ meter_head_at file at) × (next ≡ reads_from at)) where
  meter_is : meter_of head (reads file head.reads next) ≡ meter_at file at
  meter_is = rw (e.0, e.1)

  module _ (bs : List Band) {band : Band} (q : band ≡ band_for bs head.size) where
    weight_fits : {figure : Band → ℕ} → Figure figure → All GoodBand bs → GoodMeter (meter_at file at) → figure band * head.share ≤ 100000000000
    weight_fits {figure} f all g =
        let b : figure band ≤ 1000000000 = rw q (band_most f bs head.size all) in
        let s : head.share ≤ 100 = rw e.0 g.head.share in
        omega (arith, mul-le-mul b s)

    pub weights_fit : All GoodBand bs → GoodMeter (meter_at file at) → (band.annual * head.share < 2 ^ 64) × (band.allowance * head.share < 2 ^ 64) × (band.threshold * head.share < 2 ^ 64)
    weights_fit all g = (omega (arith, weight_fits annual_figure all g), omega (arith, weight_fits allowance_figure all g), omega (arith, weight_fits threshold_figure all g))

    module _ {each : Figures} (w : Weights band head.share each) (start : ℕ) where
      abbrev litres : Sum → ℕ → ℕ
      litres = litres_at start (meter_litres (meter_of head (reads file head.reads next)))

      abbrev figures : Sum → ℕ → ℕ
      figures s i = during head.installed head.removed (λ d. figure_of each s) (start + i)

      weighed_is : (figure : Band → ℕ) {x : ℕ} → x ≡ figure band * head.share → (d : ℕ) → during head.installed head.removed (λ d. x) d ≡ weighed figure bs (meter_at file at) d
      unfolding weighed
      weighed_is figure p d = rw (p, q, e.0)

      -- its litres, and its figures on its days
      parts_are : (s : Sum) (i : ℕ) → meter_figure bs s (meter_at file at) (start + i) ≡ litres s i + figures s i
      parts_are litres_sum i = omega (arith, ap (λ m. meter_litres m (start + i)) meter_is, during_zero head.installed head.removed (start + i))
      parts_are annual_sum i = omega (arith, weighed_is (λ b. b.annual) w.annual (start + i))
      parts_are allowance_sum i = omega (arith, weighed_is (λ b. b.allowance) w.allowance (start + i))
      parts_are threshold_sum i = omega (arith, weighed_is (λ b. b.threshold) w.threshold (start + i))

      module _ (every : Figures) {spans : List Span} where
        -- what its reads ask
        pub reads_room : RoomWith every spans (length spans) (λ s i. meter_figure bs s (meter_at file at) (start + i)) → Room spans (length spans) litres
        reads_room r = room_alone every (room_less every r (λ s i. omega (arith, parts_are s i)))

        module _ {after : List Span} (read : Grown spans after (length spans) litres) where
          -- what its figures ask
          pub figures_room : RoomWith every spans (length spans) (λ s i. meter_figure bs s (meter_at file at) (start + i)) → RoomWith every after (length after) figures
          figures_room r = room_after (grown_with every read) r parts_are

          pub meter_added : {last : List Span} {more : Figures} → GrownWith every more after last (length after) figures →
              GrownWith every more spans last (length spans) (λ s i. meter_figure bs s (meter_at file at) (start + i))
          meter_added g = with_both (grown_with every read) g parts_are

-- METERS: what is left of a point's meters; `all` are all of them
abbrev pub meters_of : List Band → List Meter → ℕ → Sum → ℕ → ℕ
meters_of bs ms start q i = over ms (λ m. meter_figure bs q m (start + i))

pub record MetersLeft (every : Figures) (before after : List Span) (n start : ℕ) (bs : List Band) (all left : List Meter) : Type 0 where
  pub cut : Cut before n (length before)
  pub good : All GoodMeter left
  pub kept : Kept before after
  pub room : (q : Sum) (s : ℕ) → s < length before → over_span before s (meters_of bs all start q) < 2 ^ 64
  pub rest : (q : Sum) (s : ℕ) → s < length before → sum_with every after q s + over_span before s (meters_of bs left start q) ≡ over_span before s (meters_of bs all start q)

pub meters_begin : {every : Figures} {spans : List Span} {n : ℕ} (start : ℕ) {bs : List Band} {ms : List Meter} → (every.annual ≡ 0) × ((every.allowance ≡ 0) × (every.threshold ≡ 0)) →
    Cut spans n (length spans) → SumsClear spans (length spans) → n ≤ 366 → All GoodBand bs → All GoodMeter ms → length ms ≤ 16 → MetersLeft every spans spans n start bs ms ms
unfolding sum_with
meters_begin {every} {spans} start {bs} {ms} none cut clear few priced good small =
    record {
      cut = cut;
      good = good;
      kept = kept_all;
      room = λ q s h. omega (arith, meters_most bs priced q ms good start (begin_in spans s) (end_in spans s - begin_in spans s) (omega (arith, span_within cut s h)), small, over_is spans s (meters_of bs ms start q));
      rest = λ q s h. omega (arith, clear q s h, ap (λ x. x * (end_in spans s - begin_in spans s)) (none_of q));
    }
  where
    none_of : (q : Sum) → figure_of every q ≡ 0
    none_of litres_sum = refl
    none_of annual_sum = none.0
    none_of allowance_sum = none.1.0
    none_of threshold_sum = none.1.1

pub meters_end : {every : Figures} {before after : List Span} {n start : ℕ} {bs : List Band} {ms : List Meter} → MetersLeft every before after n start bs ms [] → MetersIn every before after (length before) start bs ms
unfolding over
meters_end {before = before} u = record { kept = u.kept; sums = λ q s h. omega (arith, u.rest q s h, over_none before s {f = λ i. 0} (λ i. refl)) }

module _ {every : Figures} {before after : List Span} {n start : ℕ} {bs : List Band} {all : List Meter} (m : Meter) (left : List Meter) (u : MetersLeft every before after n start bs all (m ∷ left)) where
  first_meter : (q : Sum) (s : ℕ) → over_span before s (meters_of bs (m ∷ left) start q) ≡ over_span before s (λ i. meter_figure bs q m (start + i)) + over_span before s (meters_of bs left start q)
  unfolding over
  first_meter q s = over_add before s (λ i. meter_figure bs q m (start + i)) (meters_of bs left start q)

  pub meters_ask : (GoodMeter m × Cut after n (length after)) × RoomWith every after (length after) (λ q i. meter_figure bs q m (start + i))
  meters_ask = (
    (u.good.0, cut_kept u.kept u.cut),
    record {
      fits = λ q s h.
          let h' : s < length before = omega (arith, u.kept.long) in
          omega (arith, u.rest q s h', u.room q s h', first_meter q s, over_same u.kept s (λ i. meter_figure bs q m (start + i)));
    },
  )

  pub meters_turn : {next : List Span} {more : Figures} → GrownWith every more after next (length after) (λ q i. meter_figure bs q m (start + i)) → MetersLeft more before next n start bs all left
  meters_turn g =
      record {
        cut = u.cut;
        good = u.good.1;
        kept = kept_both u.kept g.kept;
        room = u.room;
        rest = λ q s h. omega (arith, u.rest q s h, g.sums q s (omega (arith, u.kept.long)), first_meter q s, over_same u.kept s (λ i. meter_figure bs q m (start + i)));
      }
