-- What a report asks of its rows. It has one proof at most, as a fact that a struct keeps must.
use Rattle.std.specs.Prelude.{ℕ, List, ◌^◌, ◌<◌}
use Rattle.std.specs.Coded.{×_prop}
use Rattle.std.proofs.Props.{props}
use Rattle.rules.specs.declared.Row.{Row}
use Rattle.rules.specs.Lists.{All}
use Rattle.rules.specs.Fits.{Fits, AllFit}
use Rattle.rules.specs.Once.{all_once}

fits_once : (row : Row) → IsProp (Fits row)
fits_once row = Prim.hlevel props

pub all_fit_once : (rows : List Row) → IsProp (AllFit rows)
all_fit_once = all_once fits_once

-- the year and each row's provider are below 2 to the power 64
abbrev pub Numbers : ℕ → List Row → Type 0
Numbers year rows = (year < 2 ^ 64) × All (λ row. row.provider < 2 ^ 64) rows

below_once : (n : ℕ) → IsProp (n < 2 ^ 64)
below_once n = Prim.hlevel props

providers_once : (rows : List Row) → IsProp (All (λ row. row.provider < 2 ^ 64) rows)
providers_once = all_once (λ row. below_once row.provider)

pub numbers_once : (year : ℕ) (rows : List Row) → IsProp (Numbers year rows)
numbers_once year rows = ×_prop (below_once year) (providers_once rows)
