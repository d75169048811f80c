-- Days added to spans: what some days have is cut at the spans' ends, and each piece is added to the span that holds it. Every law is over any
-- function of days. Assumes nothing.
use Prim.Native.Nat.{ℕ, zero, suc, ◌+◌, ◌-◌, ◌≤◌, ◌<◌, min, max, zero-le}
use mathlib.Core.Path.{◌≡◌, refl, ap, ◌∙◌, subst}
use mathlib.Core.List.{List}
use native.Mathlib.Nat.{le_refl}
use native.Mathlib.Omega.{arith}
use borrow.Author.Tests.{eq-eqb}
use lib.ListN.{length}
use lib.Dec.{eqb}
use Rattle.std.proofs.lemmas.Bool.Decides.{nat_tests}
use Rattle.rules.specs.Sums.{only, over_days}
use Rattle.rules.proofs.Shares.{days_eq, days_add, days_none}
use Rattle.rules.proofs.Sums.{days_le}
use Rattle.spans.specs.declared.Span.{Span}
use Rattle.spans.specs.Spans.{end_in, begin_in, Cut, Reached, Holds, Sum, sum_in, SumsAdded, Kept, RoomAt, during, over_span, Grown, Room}

-- F ON SOME DAYS
-- up to a day, and then on
during_split : (from i to : ℕ) (f : ℕ → ℕ) (e : ℕ) → from ≤ i → i ≤ to → during from to f e ≡ during from i f e + during i to f e
unfolding during only
during_split from i to f e a b = grind (arith, nat_tests)

-- where there is no day between the two
pub during_none : (from to : ℕ) (f : ℕ → ℕ) (e : ℕ) → to ≤ from → during from to f e ≡ 0
unfolding during only
during_none from to f e h = grind (arith, nat_tests)

-- the entries of days, of n from `start` on
pub during_entry : (n start first last : ℕ) (f : ℕ → ℕ) (i : ℕ) → i < n → during (min (first - start) n) (min (last - start) n) (λ i. f (start + i)) i ≡ during first last f (start + i)
unfolding during only
during_entry n start first last f i h = grind (arith, nat_tests)

pub during_zero : (from to i : ℕ) → during from to (λ e. 0) i ≡ 0
unfolding during only
during_zero from to i = grind (arith, nat_tests)

-- OVER A RANGE of days: over none, and over one more
days_next : (from n : ℕ) (f : ℕ → ℕ) → (over_days from 0 f ≡ 0) × (over_days from (suc n) f ≡ over_days from n f + f (from + n))
unfolding over_days
days_next from n f = (refl, refl)

-- over n days, from b on: those between the two that are among them
range_is : (b n i to : ℕ) (f : ℕ → ℕ) → over_days b n (during i to f) ≡ over_days (max b i) (min (b + n) to - max b i) f
unfolding during only
range_is b zero i to f = grind (arith, days_next b 0 (during i to f), days_next (max b i) 0 f)
range_is b (suc n) i to f = grind (arith, nat_tests, range_is b n i to f, days_next b n (during i to f), days_next (max b i) (b + n - max b i) f)

-- SPANS IN THEIR ORDER
module _ {spans : List Span} {n m : ℕ} (cut : Cut spans n m) where
  later : (s t : ℕ) → suc (s + t) ≤ m → end_in spans s ≤ begin_in spans (suc (s + t))
  unfolding begin_in
  later s zero h = grind arith
  later s (suc t) h = grind (arith, later s t (omega arith), cut.some (suc (s + t)) (omega arith))

  pub span_later : (s t : ℕ) → s < t → t ≤ m → end_in spans s ≤ begin_in spans t
  span_later s t h k = grind (arith, later s (t - suc s))

  pub span_within : (s : ℕ) → s < m → end_in spans s ≤ n
  span_within s h = omega (arith, span_later s m h (le_refl m), cut.all)

  -- THE SUM OVER A SPAN of days up to an entry of it, and then on to another
  module _ {s i : ℕ} (holds : Holds spans m i s) {stop : ℕ} (forward : i ≤ stop) (within : stop ≤ end_in spans s) (f : ℕ → ℕ) where
    span_piece : (t : ℕ) → t < m → over_span spans t (during i stop f) ≡ only (eqb t s) (over_days i (stop - i) f)
    unfolding over_span only
    span_piece t h =
        let b = begin_in spans t in
        grind (arith, nat_tests, range_is b (end_in spans t - b) i stop f, days_next (max b i) 0 f, cut.some t h, span_later t s, span_later s t, holds.begun, holds.within)

    pub span_step : (from t : ℕ) → from ≤ i → t < m → over_span spans t (during from stop f) ≡ over_span spans t (during from i f) + only (eqb t s) (over_days i (stop - i) f)
    unfolding over_span
    span_step from t a h =
        days_eq _ _ (λ d k l. during_split from i stop f d a forward)
        ∙ days_add _ _ (during from i f) (during i stop f)
        ∙ ap (λ x. over_span spans t (during from i f) + x) (span_piece t h)

-- A SPAN IS LOOKED FOR from a place that is reached
pub reached_first : (spans : List Span) (m i : ℕ) → Reached spans m 0 i
unfolding begin_in
reached_first spans m i = record { within = zero-le; begun = zero-le }

-- the next one begins where it ends
pub reached_next : {spans : List Span} {m s i : ℕ} → Reached spans m s i → i < begin_in spans m → end_in spans s ≤ i → Reached spans m (s + 1) i
unfolding begin_in
reached_next {spans} {m} {s} {i} r h k =
    let within : s < m = grind arith in
    record { within = omega arith; begun = subst (λ t. begin_in spans t ≤ i) {x = suc s} {y = s + 1} (omega arith) k }

-- equal functions have equal sums, and smaller ones smaller
pub over_eq : (spans : List Span) (s : ℕ) {f g : ℕ → ℕ} → ((i : ℕ) → begin_in spans s ≤ i → i < end_in spans s → f i ≡ g i) → over_span spans s f ≡ over_span spans s g
unfolding over_span
over_eq spans s h = days_eq _ _ (λ d k l. h d k (omega arith))

pub over_le : (spans : List Span) (s : ℕ) (f g : ℕ → ℕ) → ((i : ℕ) → f i ≤ g i) → over_span spans s f ≤ over_span spans s g
unfolding over_span
over_le spans s f g h = days_le _ _ f g h

pub over_none : (spans : List Span) (s : ℕ) {f : ℕ → ℕ} → ((i : ℕ) → f i ≡ 0) → over_span spans s f ≡ 0
unfolding over_span
over_none spans s h = days_eq _ _ (λ d k l. h d) ∙ days_none _ _

pub over_add : (spans : List Span) (s : ℕ) (f g : ℕ → ℕ) → over_span spans s (λ i. f i + g i) ≡ over_span spans s f + over_span spans s g
unfolding over_span
over_add spans s f g = days_add _ _ f g

-- as days that stand side by side
pub over_is : (spans : List Span) (s : ℕ) (f : ℕ → ℕ) → over_span spans s f ≡ over_days (begin_in spans s) (end_in spans s - begin_in spans s) f
unfolding over_span
over_is spans s f = refl

-- WHAT STANDS OF A SPAN BESIDES ITS SUMS stays
pub kept_all : {spans : List Span} → Kept spans spans
kept_all = record { long = refl; ends = λ s. refl; owners = λ s. refl; groups = λ s. refl }

pub kept_both : {a b c : List Span} → Kept a b → Kept b c → Kept a c
kept_both u v = record { long = v.long ∙ u.long; ends = λ s. v.ends s ∙ u.ends s; owners = λ s. v.owners s ∙ u.owners s; groups = λ s. v.groups s ∙ u.groups s }

module _ {before after : List Span} (kept : Kept before after) where
  pub begin_same : (s : ℕ) → begin_in after s ≡ begin_in before s
  unfolding begin_in
  begin_same zero = refl
  begin_same (suc s) = kept.ends s

  pub end_same : (s : ℕ) → end_in after s ≡ end_in before s
  end_same s = kept.ends s

  -- the cut, and a place that is reached, by the length of each
  pub cut_kept : {n : ℕ} → Cut before n (length before) → Cut after n (length after)
  cut_kept c =
      record {
        room = le_refl (length after);
        some = λ s h. omega (arith, c.some s (omega (arith, kept.long)), begin_same s, end_same s);
        all = begin_same (length after) ∙ ap (begin_in before) kept.long ∙ c.all;
      }

  pub reached_kept : {s i j : ℕ} → Reached before (length before) s i → i ≤ j → Reached after (length after) s j
  reached_kept {s} r h = record { within = omega (arith, r.within, kept.long); begun = omega (arith, r.begun, begin_same s) }

  pub reached_before : {s i j : ℕ} → Reached after (length after) s i → i ≤ j → Reached before (length before) s j
  reached_before {s} r h = record { within = omega (arith, r.within, kept.long); begun = omega (arith, r.begun, begin_same s) }

  pub over_same : (s : ℕ) (h : ℕ → ℕ) → over_span after s h ≡ over_span before s h
  unfolding over_span
  over_same s h = ap (λ b. over_days b (end_in after s - b) h) (begin_same s) ∙ ap (λ e. over_days (begin_in before s) (e - begin_in before s) h) (end_same s)

pub grown_none : {spans : List Span} {m : ℕ} {f : Sum → ℕ → ℕ} → ((q : Sum) (i : ℕ) → f q i ≡ 0) → Grown spans spans m f
grown_none {spans} z = record { kept = kept_all; sums = λ q s h. omega (arith, over_none spans s (z q)) }

pub grown_as : {before after : List Span} {m : ℕ} {f g : Sum → ℕ → ℕ} → ((q : Sum) (i : ℕ) → f q i ≡ g q i) → Grown before after m f → Grown before after m g
grown_as {before} e u =
    record { kept = u.kept; sums = λ q s h. u.sums q s h ∙ ap (λ x. sum_in before q s + x) (over_eq before s (λ i k l. e q i)) }

-- by functions that are the same on the days of the spans
pub grown_on : {before after : List Span} {n m : ℕ} {f g : Sum → ℕ → ℕ} → Cut before n m → ((q : Sum) (i : ℕ) → i < n → f q i ≡ g q i) → Grown before after m f → Grown before after m g
grown_on {before} cut e u =
    record {
      kept = u.kept;
      sums = λ q s h. u.sums q s h ∙ ap (λ x. sum_in before q s + x) (over_eq before s (λ i k l. e q i (omega (arith, span_within cut s h))));
    }

pub room_on : {spans : List Span} {n m : ℕ} {f g : Sum → ℕ → ℕ} → Cut spans n m → ((q : Sum) (i : ℕ) → i < n → f q i ≡ g q i) → Room spans m f → Room spans m g
room_on {spans} cut e r =
    record { fits = λ q s h. omega (arith, r.fits q s h, over_eq spans s (λ i k l. e q i (omega (arith, span_within cut s h)))) }

-- THE REST: in a loop over records that add, what the spans have and what is still to come are what they had and the whole
pub record Rest (before after : List Span) (rest whole : Sum → ℕ → ℕ) : Type 0 where
  pub kept : Kept before after
  pub sums : (q : Sum) (s : ℕ) → s < length before → sum_in after q s + over_span before s (rest q) ≡ sum_in before q s + over_span before s (whole q)

pub rest_all : {spans : List Span} {whole : Sum → ℕ → ℕ} → Rest spans spans whole whole
rest_all = record { kept = kept_all; sums = λ q s h. refl }

module _ {before after : List Span} {rest whole : Sum → ℕ → ℕ} (u : Rest before after rest whole) where
  pub rest_room : {f : Sum → ℕ → ℕ} → Room before (length before) whole → ((q : Sum) (i : ℕ) → f q i ≤ rest q i) → Room after (length after) f
  rest_room {f} r h =
      record {
        fits = λ q s k.
            let k' : s < length before = omega (arith, u.kept.long) in
            omega (arith, u.sums q s k', r.fits q s k', over_same u.kept s (f q), over_le before s (f q) (rest q) (h q));
      }

  pub rest_more : {next : List Span} {f left : Sum → ℕ → ℕ} → Grown after next (length after) f → ((q : Sum) (i : ℕ) → rest q i ≡ f q i + left q i) → Rest before next left whole
  rest_more {f = f} {left} g e =
      record {
        kept = kept_both u.kept g.kept;
        sums = λ q s k.
            omega (arith, u.sums q s k, g.sums q s (omega (arith, u.kept.long)), over_same u.kept s (f q), over_eq before s (λ i _ _. e q i), over_add before s (f q) (left q));
      }

  pub rest_none : ((q : Sum) (i : ℕ) → rest q i ≡ 0) → Grown before after (length before) whole
  rest_none z = record { kept = u.kept; sums = λ q s k. omega (arith, u.sums q s k, over_none before s (z q)) }

-- THE LOOP over the spans that some days meet, from an entry on, before another: those before entry i are added
pub record Adding (before after : List Span) (from to s i : ℕ) (f : Sum → ℕ → ℕ) : Type 0 where
  pub grown : Grown before after (length before) (λ q. during from i (f q))
  pub begun : from ≤ i
  pub within : i ≤ max from to
  pub reached : Reached before (length before) s i

pub adding_none : {before : List Span} {from s : ℕ} (to : ℕ) (f : Sum → ℕ → ℕ) → Reached before (length before) s from → Adding before before from to s from f
adding_none {from = from} to f r = record { grown = grown_none (λ q e. during_none from from (f q) e (le_refl from)); begun = le_refl from; within = omega arith; reached = r }

module _ {before after : List Span} {from to s i : ℕ} {f : Sum → ℕ → ℕ} (u : Adding before after from to s i f) where
  module _ {n : ℕ} (cut : Cut before n (length before)) (h : i < to) where
    -- what the search for the next span asks
    pub adding_asks : to ≤ n → Reached after (length after) s i × (i < begin_in after (length after))
    adding_asks top = (
      reached_kept u.grown.kept u.reached (le_refl i),
      omega (arith, begin_same u.grown.kept (length after), ap (begin_in before) u.grown.kept.long, cut.all),
    )

    module _ {t stop : ℕ} (holds : Holds after (length after) i t) (stops : stop ≡ min (end_in after t) to) {x : Sum → ℕ} (piece : (q : Sum) → x q ≡ over_days i (stop - i) (f q)) where
      held : Holds before (length before) i t
      held =
          record {
            within = omega (arith, holds.within, u.grown.kept.long);
            begun = omega (arith, holds.begun, begin_same u.grown.kept t);
            lasts = omega (arith, holds.lasts, end_same u.grown.kept t);
          }

      step : (q : Sum) (k : ℕ) → k < length before → over_span before k (during from stop (f q)) ≡ over_span before k (during from i (f q)) + only (eqb k t) (x q)
      step q k h' = span_step cut held {stop = stop} (omega (arith, holds.lasts)) (omega (arith, end_same u.grown.kept t)) (f q) from k u.begun h' ∙ rw (piece q) refl

      during_less : (q : Sum) (e : ℕ) → during from stop (f q) e ≤ during from to (f q) e
      during_less q e = omega (arith, during_split from stop to (f q) e (omega (arith, u.begun, holds.lasts)) (omega arith))

      pub adding_room : Room before (length before) (λ q. during from to (f q)) → RoomAt after t x
      unfolding only
      adding_room r =
          record {
            within = holds.within;
            fits = λ q.
                let here : only (eqb t t) (x q) ≡ x q = simp (eq-eqb t t refl) in
                omega (arith, u.grown.sums q t held.within, step q t held.within, here, over_le before t _ _ (during_less q), r.fits q t held.within);
          }

      pub adding_more : {next : List Span} → SumsAdded after next t x → Adding before next from to t stop f
      adding_more v =
          record {
            grown =
                record {
                  kept = kept_both u.grown.kept v.kept;
                  sums = λ q k h'. omega (arith, v.sums q k, u.grown.sums q k h', step q k h');
                };
            begun = omega (arith, u.begun, holds.lasts);
            within = omega arith;
            reached = record { within = omega (arith, held.within); begun = omega (arith, held.begun, holds.lasts) };
          }

  -- at the end, also where there was no day
  pub adding_done : to ≤ i → Grown before after (length before) (λ q. during from to (f q))
  unfolding during only
  adding_done h = grown_as (λ q e. grind (arith, nat_tests, u.within)) u.grown
