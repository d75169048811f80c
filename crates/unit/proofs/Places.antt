-- From place to place of an accepted file. Assumes nothing.
use Prim.Native.Nat.{ℕ, zero, suc, ◌+◌, ◌-◌, ◌≤◌, ◌<◌}
use mathlib.Core.Path.{◌≡◌, refl, sym, ap, ◌∙◌}
use mathlib.Core.List.{List, [], ◌∷◌, map}
use native.Mathlib.Omega.{arith}
use lib.ListN.{length}
use Rattle.rules.specs.declared.Statement.{Statement}
use Rattle.rules.specs.declared.Breach.TheVariants.{NoSuchPoint}
use Rattle.std.specs.Prelude.{Ok, Err}
use Rattle.rules.specs.File.{Point, bands_from, bands, after_bands, point_at, points, after_point, decode}
use Rattle.rules.specs.Settlement.{statement}
use Rattle.rules.specs.Services.{zero_statement, StatementAnswer, statement_told, statement_at}
use Rattle.rules.specs.Good.{Good}
use Rattle.records.specs.declared.Checked.{Checked}
use Rattle.rules.proofs.Positions.{length_records}
use Rattle.records.proofs.Walk.{PointsLeft, points_one, points_next, first_left, first_points, point_here, point_ends}
use Rattle.point.specs.Standing.{Standing}

module _ (file : Checked) where
  abbrev b : List ℕ
  b = file.bytes.now

  abbrev many : ℕ
  many = file.head.points

  good : Good b
  good = file.good

  -- the answer at a place among some points
  abbrev among : List Point → ℕ → StatementAnswer
  among ps k = statement_at (decode b).tariff (map (λ point. point.supply) ps) k

  no_point : (ps : List Point) (k : ℕ) → length ps ≤ k → among ps k ≡ record { number = 15; statement = zero_statement }
  unfolding statement_at
  no_point [] k h = refl
  no_point (p ∷ ps) zero h = absurd (omega arith)
  no_point (p ∷ ps) (suc k) h = no_point ps k (omega arith)

  -- the points that are left after i, and the answer among them
  pub record AtPlace (place i at : ℕ) : Type 0 where
    pub left : PointsLeft b (many - i) at
    pub to : i ≤ place
    pub is : among (points b (many - i) at) (place - i) ≡ among (decode b).points place

  module _ (place : ℕ) where
    pub past_last : many ≤ place → statement_told (Err NoSuchPoint) ≡ among (decode b).points place
    past_last h =
        let first = after_bands (bands_from b) (bands b file.head.bands (bands_from b)) in
        let all : points b many first ≡ (decode b).points = first_points b good file.header refl in
        sym (no_point (decode b).points place (omega (arith, ap length all, length_records (point_at b) after_point many first)))

    pub place_start : {at : ℕ} → at ≡ after_bands (bands_from b) (bands b file.head.bands (bands_from b)) → AtPlace place 0 at
    place_start {at} first =
        let all : many - 0 ≡ many = omega arith in
        let here : place - 0 ≡ place = omega arith in
        record {
          left = rw all (first_left b good file.header first);
          to = omega arith;
          is = rw (all, here) (ap (λ ps. among ps place) (first_points b good file.header first));
        }

    module _ {i at : ℕ} (p : AtPlace place i at) (h : place < many) where
      some : 0 < many - i
      some = omega (arith, p.to)

      -- the first of those that are left, and the rest
      split : (k : ℕ) → among (points b (many - i) at) k ≡ among (point_at b at ∷ points b (many - i - 1) (after_point at (point_at b at))) k
      split k = ap (λ ps. among ps k) (points_one b (many - i) at some)

      pub place_point : Standing b at
      place_point = record { point = point_here b p.left some; ends = point_ends b p.left some }

      pub place_next : {next : ℕ} → i < place → next ≡ after_point at (point_at b at) → AtPlace place (i + 1) next
      unfolding statement_at
      place_next {next} l n =
          let fewer : many - (i + 1) ≡ many - i - 1 = omega arith in
          let one : place - i ≡ suc (place - (i + 1)) = omega arith in
          record {
            left = rw (n, fewer) (points_next b p.left some);
            to = omega arith;
            is = rw (n, fewer) (sym (split (suc (place - (i + 1)))) ∙ (rw one at p.is));
          }

      pub place_found : {s : Statement} → place ≤ i → s ≡ statement (decode b).tariff (point_at b at).supply → statement_told (Ok s) ≡ among (decode b).points place
      unfolding statement_at
      place_found l z =
          let none : place - i ≡ 0 = omega arith in
          ap (λ (s : Statement). record { number = 0; statement = s }) z ∙ (sym (split 0) ∙ (rw none at p.is))
