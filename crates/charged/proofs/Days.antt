-- The charged days by the ends of the year. Assumes nothing.
use Prim.Native.Nat.{ℕ, ◌+◌, ◌-◌, ◌≤◌, min, max}
use mathlib.Core.Path.{◌≡◌, ap}
use native.Mathlib.Omega.{arith}
use Rattle.rules.specs.Calendar.{april_first}
use Rattle.rules.specs.Charges.{charged_from, charged_count}
use Rattle.charged.specs.declared.Charged.{Charged}
use Rattle.charged.specs.Charged.{ChargedOf}

-- a settlement year has at most 366 days
pub year_days : (year : ℕ) → 2000 ≤ year → april_first (year + 1) ≤ april_first year + 366
unfolding april_first
year_days year h = omega arith

pub charged_of : (year connected disconnected : ℕ) {r : Charged} → 2020 ≤ year → r.from.0 ≡ max (april_first year) connected →
    r.count.0 ≡ min (april_first (year + 1)) disconnected - r.from.0 → ChargedOf year connected disconnected r
unfolding charged_from charged_count
charged_of year connected disconnected h f n =
    record {
      days = λ tariff supply y c d.
          let a = ap april_first y in
          let b = ap (λ n. april_first (n + 1)) y in
          (omega (arith, a, c), omega (arith, a, b, c, d));
      few = omega (arith, year_days year (omega arith));
    }
