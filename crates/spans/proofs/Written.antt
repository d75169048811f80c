-- What is written to one span. Assumes nothing.
use Prim.Native.Nat.{ℕ, ◌+◌, ◌*◌, ◌<◌}
use mathlib.Core.Path.{◌≡◌, refl, ap, ◌∙◌}
use mathlib.Core.List.{List, [], ◌∷◌, ◌++◌}
use native.Mathlib.Omega.{arith}
use Rattle.std.proofs.lemmas.Bool.Decides.{nat_tests}
use lib.ListN.{length, set, length-set}
use lib.Seq.{get_or-set_same, get_or-set_other}
use lib.Dec.{eqb}
use Rattle.rules.specs.Sums.{only}
use Rattle.records.specs.declared.Groups.{Groups}
use Rattle.spans.specs.declared.Figures.{Figures}
use Rattle.spans.specs.declared.Span.{Span}
use Rattle.spans.specs.Spans.{Sums, Times, clear_span, span_in, Sum, litres_sum, annual_sum, allowance_sum, threshold_sum, sum_of, sum_in, SpanAdded, SumsAdded, litres_of, figure_of}

module _ (spans : List Span) (s : ℕ) (span : Span) where
  written_here : s < length spans → span_in (set spans s span) s ≡ span
  unfolding span_in
  written_here within = get_or-set_same spans s span _ within

  written_else : (t : ℕ) → (t ≡ s → ⊥) → span_in (set spans s span) t ≡ span_in spans t
  unfolding span_in
  written_else t e = get_or-set_other spans s t span _ (λ q. e (omega arith))

-- A SPAN WITHOUT SUMS, and one more such span
pub clear_is : {end provider : ℕ} {groups : Groups} {litres : ℕ} {figures : Figures} → litres ≡ 0 → (figures.annual ≡ 0) × ((figures.allowance ≡ 0) × (figures.threshold ≡ 0)) →
    record { end = end; provider = provider; groups = groups; litres = litres; figures = figures } ≡ clear_span end provider groups
clear_is l f = rw (l, f.0, f.1.0, f.1.1) refl

pub span_added : (spans : List Span) {next : List Span} {end provider : ℕ} {groups : Groups} {span : Span} → next ≡ spans ++ span ∷ [] → span ≡ clear_span end provider groups → SpanAdded spans next end provider groups
span_added spans pushed e = record { is = pushed ∙ ap (λ v. spans ++ v ∷ []) e }

-- A SPAN WHOSE SUMS BECOME MORE, and of which all else stays
module _ (spans : List Span) (s : ℕ) (span : Span) (x : Sum → ℕ) (within : s < length spans) (ends : span.end ≡ (span_in spans s).end)
    (owner : span.provider ≡ (span_in spans s).provider) (groups : span.groups ≡ (span_in spans s).groups) (more : (q : Sum) → sum_of span q ≡ sum_in spans q s + x q) where
  abbrev after : List Span
  after = set spans s span

  -- what is kept of this span is kept of all
  all_kept : {A : Type 0} (of : Span → A) → of span ≡ of (span_in spans s) → (t : ℕ) → of (span_in after t) ≡ of (span_in spans t)
  all_kept of e t = grind (arith, written_here spans s span within, written_else spans s span t, e)

  all_more : (q : Sum) (t : ℕ) → sum_in after q t ≡ sum_in spans q t + only (eqb t s) (x q)
  unfolding only
  all_more q t = grind (arith, nat_tests, written_here spans s span within, written_else spans s span t, more q)

  sums_added : SumsAdded spans after s x
  sums_added =
      record {
        kept =
            record {
              long = length-set spans s span;
              ends = all_kept (λ v. v.end) ends;
              owners = all_kept (λ v. v.provider) owner;
              groups = all_kept (λ v. v.groups) groups;
            };
        sums = all_more;
      }

module _ (spans : List Span) (s : ℕ) (within : s < length spans) where
  abbrev old : Span
  old = span_in spans s

  pub litres_added : (x : ℕ) → SumsAdded spans (set spans s (record old { litres = old.litres + x })) s (litres_of x)
  litres_added x = sums_added spans s (record old { litres = old.litres + x }) (litres_of x) within refl refl refl more
    where
      more : (q : Sum) → sum_of (record old { litres = old.litres + x }) q ≡ sum_of old q + litres_of x q
      more litres_sum = refl
      more annual_sum = omega arith
      more allowance_sum = omega arith
      more threshold_sum = omega arith

  -- what some of its days have
  pub figures_added : (days : ℕ) {each all sums : Figures} → Times each days all → Sums old.figures all sums → SumsAdded spans (set spans s (record old { figures = sums })) s (λ q. figure_of each q * days)
  figures_added days {each} {all} {sums} t u = sums_added spans s (record old { figures = sums }) (λ q. figure_of each q * days) within refl refl refl more
    where
      more : (q : Sum) → sum_of (record old { figures = sums }) q ≡ sum_of old q + figure_of each q * days
      more litres_sum = omega arith
      more annual_sum = omega (arith, t.annual, u.annual)
      more allowance_sum = omega (arith, t.allowance, u.allowance)
      more threshold_sum = omega (arith, t.threshold, u.threshold)
