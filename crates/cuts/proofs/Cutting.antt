-- The loop that cuts the days into spans. Assumes nothing.
use Prim.Native.Nat.{ℕ, zero, suc, ◌+◌, ◌≤◌, ◌<◌, min, zero-le}
use mathlib.Core.Path.{◌≡◌, refl, sym, ap, ◌∙◌, subst}
use mathlib.Core.List.{List, [], ◌∷◌}
use native.Mathlib.Decide.{dec_lt}
use native.Mathlib.Nat.{le_refl}
use native.Mathlib.Omega.{arith}
use lib.ListN.{length}
use Rattle.std.proofs.lemmas.List.{length-append, get_or_append_left, get_or_push}
use Rattle.rules.specs.declared.Condition.{Condition}
use Rattle.records.specs.declared.Groups.{Groups}
use Rattle.records.specs.Conditions.{condition_of}
use Rattle.spans.specs.declared.Span.{Span}
use Rattle.spans.specs.Spans.{clear_span, span_in, begin_in, end_in, Sum, litres_sum, annual_sum, allowance_sum, threshold_sum, sum_of, sum_in, SpanAdded}
use Rattle.rules.specs.declared.Transfer.{Transfer}
use Rattle.cuts.specs.declared.InForce.{InForce}
use Rattle.cuts.specs.Cuts.{Owns, Held, CutBy}
use Rattle.providers.proofs.Runs.{reading_within, reading_under, reading_later}

-- no days are cut into no spans
pub cut_none : {spans : List Span} {owner : ℕ → ℕ} {on : ℕ → Condition} → spans ≡ [] → CutBy spans 0 owner on
unfolding begin_in
cut_none {spans} e =
    let none : length spans ≡ 0 = ap length e in
    record {
      few = omega arith;
      cut = record { room = le_refl (length spans); some = λ s h. absurd (omega arith); all = ap (begin_in spans) none };
      owners = λ s i h. absurd (omega arith);
      conditions = λ s i h. absurd (omega arith);
      clear = λ q s h. absurd (omega arith);
    }

clear_sum : (end provider : ℕ) (g : Groups) (q : Sum) → sum_of (clear_span end provider g) q ≡ 0
clear_sum end provider g litres_sum = refl
clear_sum end provider g annual_sum = refl
clear_sum end provider g allowance_sum = refl
clear_sum end provider g threshold_sum = refl

-- by owners that are the same
pub cut_as : {spans : List Span} {n : ℕ} {owner owner' : ℕ → ℕ} {on : ℕ → Condition} → ((i : ℕ) → owner i ≡ owner' i) → CutBy spans n owner on → CutBy spans n owner' on
cut_as e u =
    record {
      few = u.few;
      cut = u.cut;
      owners = λ s i h a b. u.owners s i h a b ∙ e i;
      conditions = u.conditions;
      clear = u.clear;
    }

-- ONE MORE SPAN, from where the last one ends
module _ {spans next : List Span} {owner : ℕ → ℕ} {on : ℕ → Condition} {i end provider : ℕ} {g : Groups} (u : CutBy spans i owner on) (v : SpanAdded spans next end provider g) where
  abbrev s : ℕ
  s = length spans

  one_longer : length next ≡ s + 1
  one_longer = ap length v.is ∙ length-append spans (clear_span end provider g ∷ [])

  span_before : (t : ℕ) → t < s → span_in next t ≡ span_in spans t
  unfolding span_in
  span_before t h = ap (λ l. span_in l t) v.is ∙ get_or_append_left spans (clear_span end provider g ∷ []) _ t h

  span_here : span_in next s ≡ clear_span end provider g
  unfolding span_in
  span_here = ap (λ l. span_in l s) v.is ∙ get_or_push spans (clear_span end provider g) _ s refl

  end_before : (t : ℕ) → t < s → end_in next t ≡ end_in spans t
  end_before t h = ap (λ (x : Span). x.end) (span_before t h)

  ends : end_in next s ≡ end
  ends = ap (λ (x : Span). x.end) span_here

  begin_before : (t : ℕ) → t ≤ s → begin_in next t ≡ begin_in spans t
  unfolding begin_in
  begin_before zero h = refl
  begin_before (suc t) h = end_before t (omega arith)

  begin_here : begin_in next s ≡ i
  begin_here = begin_before s (le_refl s) ∙ u.cut.all

  module _ (forward : i < end) (room : s < 72) (mine : (j : ℕ) → i ≤ j → j < end → owner j ≡ provider) (under : (j : ℕ) → i ≤ j → j < end → on j ≡ condition_of g) where
    -- what a span has is what each of its days has by `all`: of the owner and of the condition alike
    one_more : {B : Type 0} (of : Span → B) (all : ℕ → B) → ((j : ℕ) → i ≤ j → j < end → of (clear_span end provider g) ≡ all j) →
        ((t j : ℕ) → t < s → begin_in spans t ≤ j → j < end_in spans t → of (span_in spans t) ≡ all j) →
        (t j : ℕ) → t < length next → begin_in next t ≤ j → j < end_in next t → of (span_in next t) ≡ all j
    one_more of all here before t j h a b = elim (dec_lt t s) [
      | yes lt ↦ ap of (span_before t lt) ∙ before t j lt (omega (arith, begin_before t (omega arith))) (omega (arith, end_before t lt))
      | no ge ↦
          let e : t ≡ s = omega (arith, one_longer) in
          ap (λ k. of (span_in next k)) e ∙ ap of span_here ∙ here j (omega (arith, begin_here, ap (begin_in next) e)) (omega (arith, ends, ap (end_in next) e))
    ]

    days_some : (t : ℕ) → t < length next → begin_in next t < end_in next t
    days_some t h = elim (dec_lt t s) [
      | yes lt ↦ omega (arith, u.cut.some t lt, begin_before t (omega arith), end_before t lt)
      | no ge ↦ let e : t ≡ s = omega (arith, one_longer) in omega (arith, begin_here, ends, ap (begin_in next) e, ap (end_in next) e)
    ]

    cleared : (q : Sum) (t : ℕ) → t < length next → sum_in next q t ≡ 0
    cleared q t h = elim (dec_lt t s) [
      | yes lt ↦ ap (λ x. sum_of x q) (span_before t lt) ∙ u.clear q t lt
      | no ge ↦ let e : t ≡ s = omega (arith, one_longer) in ap (sum_in next q) e ∙ ap (λ x. sum_of x q) span_here ∙ clear_sum end provider g q
    ]

    last_end : begin_in next (length next) ≡ end
    unfolding begin_in
    last_end = ap (begin_in next) {x = length next} {y = suc s} (omega (arith, one_longer)) ∙ ends

    pub cut_more : CutBy next end owner on
    cut_more =
        record {
          few = omega (arith, one_longer);
          cut = record { room = le_refl (length next); some = days_some; all = last_end };
          owners = one_more (λ x. x.provider) owner (λ j a b. sym (mine j a b)) u.owners;
          conditions = one_more (λ x. condition_of x.groups) on (λ j a b. sym (under j a b)) u.conditions;
          clear = cleared;
        }

-- THE LOOP: the days before entry i are cut, and those from there on go by the transfers and conditions that are ahead. One of these has come to an
-- end there, but before the first turn
module _ (file : List ℕ) (start n : ℕ) (all : ℕ → Transfer) (on : ℕ → Condition) where
  abbrev owner : ℕ → ℕ
  owner j = (all j).provider

  pub record Cutting (spans : List Span) (i : ℕ) (own : InForce Transfer) (held : InForce Groups) : Type 0 where
    pub done : CutBy spans i owner on
    pub owns : Owns file start n all i own
    pub holds : Held file start n on i held
    pub few : length spans + own.left + held.left ≤ 72
    pub fewer : i < own.end → i < held.end → length spans + own.left + held.left ≤ 71
    pub within : i ≤ n

  module _ {spans : List Span} {i : ℕ} {own : InForce Transfer} {held : InForce Groups} (own' : InForce Transfer) (held' : InForce Groups) (u : Cutting spans i own held) (owns : Owns file start n all i own') (holds : Held file start n on i held')
      (a : i < own'.end) (b : i < held'.end) (less : (own'.left ≤ own.left) × (own.end ≤ i → own'.left < own.left))
      (less' : (held'.left ≤ held.left) × (held.end ≤ i → held'.left < held.left)) where
    places : length spans + own'.left + held'.left ≤ 71
    places = elim (dec_lt i own.end) [
      | yes x ↦ elim (dec_lt i held.end) [
        | yes y ↦ omega (arith, u.fewer x y, less.0, less'.0)
        | no y ↦ omega (arith, u.few, less.0, less'.1 (omega arith))
      ]
      | no x ↦ omega (arith, u.few, less.1 (omega arith), less'.0)
    ]

    pub cutting_room : length spans < 72
    cutting_room = omega (arith, places)

    pub cutting_turn : {end : ℕ} {next : List Span} → end ≡ min own'.end held'.end → SpanAdded spans next end own'.now.provider held'.now → Cutting next end own' held'
    cutting_turn {end} e v =
        let on-to : i < end = omega arith in
        record {
          done = cut_more u.done v on-to cutting_room (λ j x y. ap (λ t. t.provider) (reading_under owns j x (omega arith))) (λ j x y. reading_under holds j x (omega arith));
          owns = reading_later owns (omega arith);
          holds = reading_later holds (omega arith);
          few = omega (arith, places, one_longer u.done v);
          fewer = λ x y. absurd (omega arith);
          within = omega (arith, reading_within owns);
        }

  pub cutting_begin : {spans : List Span} {own : InForce Transfer} {held : InForce Groups} → spans ≡ [] → Owns file start n all 0 own → Held file start n on 0 held → own.left + held.left ≤ 71 → Cutting spans 0 own held
  cutting_begin {spans} e o h few =
      let none : length spans ≡ 0 = ap length e in
      record { done = cut_none e; owns = o; holds = h; few = omega arith; fewer = λ x y. omega arith; within = zero-le }

  pub cutting_end : {spans : List Span} {i : ℕ} {own : InForce Transfer} {held : InForce Groups} → Cutting spans i own held → n ≤ i → CutBy spans n owner on
  cutting_end {spans} {i} u h = subst (λ k. CutBy spans k owner on) {x = i} {y = n} (omega (arith, u.within)) u.done
