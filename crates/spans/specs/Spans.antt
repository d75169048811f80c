-- The spans of a point's charged days, in a lent vector.
use Rattle.std.specs.Prelude.{ℕ, zero, suc, ◌+◌, ◌-◌, ◌*◌, ◌^◌, ◌≤◌, ◌<◌, ◌≡◌, ◌&&◌, List, [], ◌∷◌, ◌++◌, length, get_or, leb, ltb, eqb}
use Rattle.rules.specs.Sums.{only, over_days}
use Rattle.records.specs.declared.Groups.{Groups}
use Rattle.spans.specs.declared.Figures.{Figures}
use Rattle.spans.specs.declared.Span.{Span}

-- FIGURES of two added, each to its own
pub record Sums (x y r : Figures) : Type 0 where
  pub annual : r.annual ≡ x.annual + y.annual
  pub allowance : r.allowance ≡ x.allowance + y.allowance
  pub threshold : r.threshold ≡ x.threshold + y.threshold

-- so many times each
pub record Times (x : Figures) (n : ℕ) (r : Figures) : Type 0 where
  pub annual : r.annual ≡ x.annual * n
  pub allowance : r.allowance ≡ x.allowance * n
  pub threshold : r.threshold ≡ x.threshold * n

-- no figures
abbrev pub no_figures : Figures
no_figures = record { annual = 0; allowance = 0; threshold = 0 }

-- A SPAN without sums
abbrev pub clear_span : ℕ → ℕ → Groups → Span
clear_span end provider groups = record { end = end; provider = provider; groups = groups; litres = 0; figures = no_figures }

-- THE SPAN at a place; past the last, one without days
unfoldable pub span_in : List Span → ℕ → Span
span_in spans s = get_or spans s (clear_span 0 0 (record { state = 0; rateable = 0 }))

-- the entry before which it ends
abbrev pub end_in : List Span → ℕ → ℕ
end_in spans s = (span_in spans s).end

-- the entry at which it begins: the first at 0, and each other where the one before it ends
unfoldable pub begin_in : List Span → ℕ → ℕ
begin_in spans zero = 0
begin_in spans (suc s) = end_in spans s

-- n days are cut into m spans, which have at least a day each
pub record Cut (spans : List Span) (n m : ℕ) : Type 0 where
  pub room : m ≤ length spans
  pub some : (s : ℕ) → s < m → begin_in spans s < end_in spans s
  pub all : begin_in spans m ≡ n

-- the span at place s does not begin after entry i; or s is m, the place behind the last, where all days end
pub record Reached (spans : List Span) (m s i : ℕ) : Type 0 where
  pub within : s ≤ m
  pub begun : begin_in spans s ≤ i

-- the span at place s is one of m, and the day of entry i is among its days
pub record Holds (spans : List Span) (m i s : ℕ) : Type 0 where
  pub within : s < m
  pub begun : begin_in spans s ≤ i
  pub lasts : i < end_in spans s

-- THE FOUR SUMS over a span's days: litres, and annual charges, allowances and thresholds × share
pub data Sum : Type 0 where
  litres_sum : Sum
  annual_sum : Sum
  allowance_sum : Sum
  threshold_sum : Sum

-- each of them of a span by value
abbrev pub sum_of : Span → Sum → ℕ
sum_of span litres_sum = span.litres
sum_of span annual_sum = span.figures.annual
sum_of span allowance_sum = span.figures.allowance
sum_of span threshold_sum = span.figures.threshold

-- one of the sums of the span at a place
abbrev pub sum_in : List Span → Sum → ℕ → ℕ
sum_in spans q s = sum_of (span_in spans s) q

-- after the spans stands one more, without sums
pub record SpanAdded (before after : List Span) (end provider : ℕ) (groups : Groups) : Type 0 where
  pub is : after ≡ before ++ clear_span end provider groups ∷ []

-- all that stands of the spans besides their sums is kept
pub record Kept (before after : List Span) : Type 0 where
  pub long : length after ≡ length before
  pub ends : (s : ℕ) → end_in after s ≡ end_in before s
  pub owners : (s : ℕ) → (span_in after s).provider ≡ (span_in before s).provider
  pub groups : (s : ℕ) → (span_in after s).groups ≡ (span_in before s).groups

-- the sums of the span at a place become more by x, and all else stays
pub record SumsAdded (before after : List Span) (s : ℕ) (x : Sum → ℕ) : Type 0 where
  pub kept : Kept before after
  pub sums : (q : Sum) (t : ℕ) → sum_in after q t ≡ sum_in before q t + only (eqb t s) (x q)

-- there is room for that: the span stands in the slice, and each sum fits 64 bits
pub record RoomAt (spans : List Span) (s : ℕ) (x : Sum → ℕ) : Type 0 where
  pub within : s < length spans
  pub fits : (q : Sum) → sum_in spans q s + x q < 2 ^ 64

-- so many litres for the sums, and no figures of meters
abbrev pub litres_of : ℕ → Sum → ℕ
litres_of x litres_sum = x
litres_of x annual_sum = 0
litres_of x allowance_sum = 0
litres_of x threshold_sum = 0

-- the figures of meters for the sums, and no litres
abbrev pub figure_of : Figures → Sum → ℕ
figure_of each litres_sum = 0
figure_of each annual_sum = each.annual
figure_of each allowance_sum = each.allowance
figure_of each threshold_sum = each.threshold

-- DAYS: f on those of the entries from one on, before another, and 0 on the others
unfoldable pub during : ℕ → ℕ → (ℕ → ℕ) → ℕ → ℕ
during from to f i = only (leb from i && ltb i to) (f i)

-- the sum of f over a span's days
unfoldable pub over_span : List Span → ℕ → (ℕ → ℕ) → ℕ
over_span spans s f = over_days (begin_in spans s) (end_in spans s - begin_in spans s) f

-- each of the sums of m spans has grown by what their days have, where the day of entry i has f q i
pub record Grown (before after : List Span) (m : ℕ) (f : Sum → ℕ → ℕ) : Type 0 where
  pub kept : Kept before after
  pub sums : (q : Sum) (s : ℕ) → s < m → sum_in after q s ≡ sum_in before q s + over_span before s (f q)

-- there is room to grow by f
pub record Room (spans : List Span) (m : ℕ) (f : Sum → ℕ → ℕ) : Type 0 where
  pub fits : (q : Sum) (s : ℕ) → s < m → sum_in spans q s + over_span spans s (f q) < 2 ^ 64
