-- The exit of a `?` that hands an error on as it is. Assumes nothing.
use mathlib.Core.Path.{◌≡◌, ap}
use Rattle.std.specs.Prelude.{Result, Ok, Err, IsErrAnd}

-- what the exit returns is that error
pub handed_on : {T E : Type 0} {e : E} {r : Result T E} → IsErrAnd r (λ y. y ≡ e) → r ≡ Err e
handed_on {r = Ok x} h = absurd h
handed_on {r = Err y} h = ap (λ e. Err e) h
