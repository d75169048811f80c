-- From point to point of an accepted file: the points that are left at a position are its, are sound and end within the file. Assumes nothing.
use Prim.Native.Nat.{ℕ, zero, suc, ◌+◌, ◌-◌, ◌*◌, ◌^◌, ◌≤◌, ◌<◌}
use mathlib.Core.Path.{◌≡◌, refl, sym, ap, ap₂, ◌∙◌, subst}
use mathlib.Core.Logic.{inl, inr}
use mathlib.Core.List.{List, ◌∷◌}
use native.Mathlib.Omega.{arith}
use lib.ListN.{length}
use Rattle.rules.specs.declared.Header.{Header}
use Rattle.rules.specs.Lists.{All, In}
use Rattle.rules.specs.File.{Point, records, after, header_at, band_bits, band_at, point_at, points, bands_from, bands, after_bands, after_point, after_points, decode, decode_in}
use Rattle.rules.specs.Good.{GoodPoint, Good}
use Rattle.rules.proofs.Positions.{forward, point_forward, records_wide}

module _ (b : List ℕ) where
  pub record PointsLeft (left at : ℕ) : Type 0 where
    pub good : All (GoodPoint (decode b).tariff.service) (points b left at)
    pub ends : after_points at (points b left at) ≤ length b * 8
    pub short : length b ≤ 65536
    -- they are among the file's
    pub among : (point : Point) → In point (points b left at) → In point (decode b).points

  pub left_within : {left at : ℕ} → PointsLeft left at → at < 2 ^ 32
  left_within {left} {at} p = omega (arith, p.ends, p.short, forward point_forward at (points b left at))

  -- the first of those that are left, and those behind it
  pub points_one : (n at : ℕ) → 0 < n → points b n at ≡ point_at b at ∷ points b (n - 1) (after_point at (point_at b at))
  unfolding records
  points_one zero at h = absurd (omega arith)
  points_one (suc n) at h =
      let less : n ≡ suc n - 1 = omega arith in
      ap (λ k. point_at b at ∷ points b k (after_point at (point_at b at))) less

  module _ {left at : ℕ} (p : PointsLeft left at) (h : 0 < left) where
    abbrev next : ℕ
    next = after_point at (point_at b at)

    all : All (GoodPoint (decode b).tariff.service) (point_at b at ∷ points b (left - 1) next)
    all = subst (All (GoodPoint (decode b).tariff.service)) (points_one left at h) p.good

    end : after_points next (points b (left - 1) next) ≤ length b * 8
    unfolding after
    end = subst (λ ps. after_points at ps ≤ length b * 8) (points_one left at h) p.ends

    pub point_here : GoodPoint (decode b).tariff.service (point_at b at)
    point_here = all.0

    pub point_ends : next ≤ length b * 8
    point_ends = omega (arith, end, forward point_forward next (points b (left - 1) next))

    pub point_within : next < 2 ^ 32
    point_within = omega (arith, point_ends, p.short)

    pub points_next : PointsLeft (left - 1) next
    points_next = record { good = all.1; ends = end; short = p.short; among = λ point m. p.among point (subst (In point) (sym (points_one left at h)) (inr m)) }

    pub point_among : In (point_at b at) (decode b).points
    point_among = p.among _ (subst (In (point_at b at)) (sym (points_one left at h)) (inl refl))

  -- all points, after the bands
  module _ (g : Good b) {head : Header} {at : ℕ} (e : head ≡ header_at b) (f : at ≡ after_bands (bands_from b) (bands b head.bands (bands_from b))) where
    bands_end : at ≡ after_bands (bands_from b) (decode b).tariff.bands
    unfolding decode_in
    bands_end = f ∙ ap (λ (h : Header). after_bands (bands_from b) (bands b h.bands (bands_from b))) e

    pub first_points : points b head.points at ≡ (decode b).points
    unfolding decode_in
    first_points = ap (λ at. points b head.points at) bands_end ∙ ap (λ (h : Header). points b h.points (after_bands (bands_from b) (bands b (header_at b).bands (bands_from b)))) e

    pub first_left : PointsLeft head.points at
    first_left =
        record {
          good = subst (All (GoodPoint (decode b).tariff.service)) (sym first_points) g.points;
          ends = omega (arith, g.fits, ap (λ from. after_points from (points b head.points at)) bands_end, ap (after_points (after_bands (bands_from b) (decode b).tariff.bands)) first_points);
          short = g.short;
          among = λ point m. subst (In point) first_points m;
        }

  -- the cursor past as many bands as the header says is after the bands
  pub past_bands : (head : Header) {start n : ℕ} → (start ≡ bands_from b) × (n ≡ head.bands) → start + n * band_bits ≡ after_bands (bands_from b) (bands b head.bands (bands_from b))
  past_bands head e = ap₂ (λ (s n : ℕ). s + n * band_bits) e.0 e.1 ∙ sym (records_wide band_bits (band_at b) head.bands (bands_from b))

  -- all points again, by that cursor
  module _ (g : Good b) {head : Header} {start : ℕ} (e : (head ≡ header_at b) × (start ≡ bands_from b)) where
    pub points_start : PointsLeft head.points (start + head.bands * band_bits)
    points_start = first_left g e.0 (past_bands head (e.1, refl))

    pub year_from_lem : 2020 ≤ head.year
    unfolding decode_in
    year_from_lem = omega (arith, g.header.year_from, ap (λ (h : Header). h.year) e.0)

    pub year_to_lem : head.year ≤ 2098
    unfolding decode_in
    year_to_lem = omega (arith, g.header.year_to, ap (λ (h : Header). h.year) e.0)
