-- What the meters of a point have on its days, and what is said of the spans that they are added to.
use Rattle.std.specs.Prelude.{ℕ, ◌+◌, ◌-◌, ◌*◌, ◌^◌, ◌≤◌, ◌<◌, ◌≡◌, List, [], map, length}
use Rattle.rules.specs.declared.Band.{Band}
use Rattle.rules.specs.declared.Read.{Read}
use Rattle.rules.specs.declared.MeterHead.{MeterHead}
use Rattle.rules.specs.Sums.{over}
use Rattle.rules.specs.Lists.{All, Ascending}
use Rattle.rules.specs.File.{Meter, meters, after_bands, after_meters}
use Rattle.rules.specs.Litres.{advance, carried_before, meter_litres}
use Rattle.rules.specs.Charges.{band_for}
use Rattle.rules.specs.Good.{GoodBand, GoodMeter}
use Rattle.bands.specs.declared.Bands.{Bands}
use Rattle.bands.specs.Bands.{SizesOf, bands_in}
use Rattle.spans.specs.declared.Figures.{Figures}
use Rattle.spans.specs.declared.Span.{Span}
use Rattle.spans.specs.Spans.{end_in, begin_in, Sum, litres_sum, annual_sum, allowance_sum, threshold_sum, sum_in, Kept, figure_of, during, over_span}
use Rattle.meters.specs.declared.advance.Advance.{Advance}

-- what day d of an advance of so many litres carries, at `parts` ten-thousandths (share × return)
unfoldable pub carried : ℕ → ℕ → ℕ → ℕ → ℕ → ℕ
carried litres parts first last d =
    carried_before litres parts (last - first) (d - first + 1) - carried_before litres parts (last - first) (d - first)

-- an advance over its days
unfoldable pub spread : ℕ → ℕ → ℕ → ℕ → ℕ → ℕ
spread litres parts first last = during first last (carried litres parts first last)

-- the same of an advance by value
abbrev pub spread_of : Advance → ℕ → ℕ
spread_of a = spread a.litres a.parts a.first a.last

-- a meter of its head and its reads
abbrev pub meter_of : MeterHead → List Read → Meter
meter_of h rs =
    record {
      size = h.size;
      share = h.share;
      returned = h.returned;
      digits = h.digits;
      installed = h.installed;
      removed = h.removed;
      reads = rs;
    }

-- the advance between two successive reads of it
pub record AdvanceOf (m : MeterHead) (earlier later : Read) (a : Advance) : Type 0 where
  pub litres : a.litres ≡ advance (meter_of m []) earlier later
  pub parts : a.parts ≡ m.share * m.returned
  pub first : a.first ≡ earlier.day
  pub last : a.last ≡ later.day

-- a figure of the band of a meter × its share, on its meter days
unfoldable pub weighed : (Band → ℕ) → List Band → Meter → ℕ → ℕ
weighed figure bs m = during m.installed m.removed (λ d. figure (band_for bs m.size) * m.share)

-- the figures of a band × a share
pub record Weights (b : Band) (share : ℕ) (r : Figures) : Type 0 where
  pub annual : r.annual ≡ b.annual * share
  pub allowance : r.allowance ≡ b.allowance * share
  pub threshold : r.threshold ≡ b.threshold * share

-- what each of the four sums has of a meter on a day
abbrev pub meter_figure : List Band → Sum → Meter → ℕ → ℕ
meter_figure bs litres_sum m d = meter_litres m d
meter_figure bs annual_sum m d = weighed (λ b. b.annual) bs m d
meter_figure bs allowance_sum m d = weighed (λ b. b.allowance) bs m d
meter_figure bs threshold_sum m d = weighed (λ b. b.threshold) bs m d

-- SUMS BESIDES: what a sum of a span comes to, where each of its days has `every` besides
unfoldable pub sum_with : Figures → List Span → Sum → ℕ → ℕ
sum_with every spans q s = sum_in spans q s + figure_of every q * (end_in spans s - begin_in spans s)

-- the sums of m spans have grown by what their days have, where the day of entry i has f q i. What each day has besides was `every`, and is `more`
pub record GrownWith (every more : Figures) (before after : List Span) (m : ℕ) (f : Sum → ℕ → ℕ) : Type 0 where
  pub kept : Kept before after
  pub sums : (q : Sum) (s : ℕ) → s < m → sum_with more after q s ≡ sum_with every before q s + over_span before s (f q)

-- there is room to grow so
pub record RoomWith (every : Figures) (spans : List Span) (m : ℕ) (f : Sum → ℕ → ℕ) : Type 0 where
  pub fits : (q : Sum) (s : ℕ) → s < m → sum_with every spans q s + over_span spans s (f q) < 2 ^ 64

-- no sum of the first m spans has anything
abbrev pub SumsClear : List Span → ℕ → Type 0
SumsClear spans m = (q : Sum) (s : ℕ) → s < m → sum_in spans q s ≡ 0

-- the sums of m spans are those of some meters, over each span's days; the day of entry i is start + i
pub record MetersIn (every : Figures) (before after : List Span) (m start : ℕ) (bs : List Band) (ms : List Meter) : Type 0 where
  pub kept : Kept before after
  pub sums : (q : Sum) (s : ℕ) → s < m → sum_with every after q s ≡ over_span before s (λ i. over ms (λ x. meter_figure bs q x (start + i)))

-- what an accepted file has of a point's n meters
pub record GoodMeters (file : List ℕ) (n at : ℕ) : Type 0 where
  pub few : n ≤ 16
  pub sound : All GoodMeter (meters file n at)
  pub ends : after_meters at (meters file n at) < 2 ^ 32

-- and of the tariff's bands
pub record GoodBands {N : ℕ} (file : List ℕ) (bands : Bands N) : Type 0 where
  pub some : 1 ≤ length bands.sizes.items
  pub priced : All GoodBand (bands_in file bands)
  pub rising : Ascending 0 (map (λ b. b.size) (bands_in file bands))
  pub ends : after_bands bands.first.at (bands_in file bands) < 2 ^ 32
  pub sizes : SizesOf file (length bands.sizes.items) bands.first.at bands.sizes.items
