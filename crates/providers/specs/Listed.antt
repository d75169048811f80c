-- A list of providers, which ascends, and what is put into it.
use Rattle.std.specs.Prelude.{ℕ, ◌≤◌, ◌<◌, cond, ◌≡◌, List, ltb, length, get_or, Result, MatchResult, IfOk}
use Rattle.rules.specs.Lists.{insert}
use Rattle.rules.specs.File.{Tariff, Point, point_at, after_point, decode}
use Rattle.rules.specs.Charges.{charged_from, charged_count}
use Rattle.rules.specs.Settlement.{insert_days, providers_of}
use Rattle.bits.specs.declared.Cursor.{Cursor}
use Rattle.rules.specs.declared.Breach.{Breach}
use Rattle.rules.specs.declared.Breach.TheVariants.{TooManyProviders}

-- the first `count` numbers ascend
abbrev pub Ascends : List ℕ → ℕ → Type 0
Ascends list count = (i j : ℕ) → i < j → j < count → get_or list i 0 < get_or list j 0

-- the first place of the `count` first whose number is not below p
pub record Placed (list : List ℕ) (count p at : ℕ) : Type 0 where
  pub within : at ≤ count
  pub below : (k : ℕ) → k < at → get_or list k 0 < p
  pub here : at < count → p ≤ get_or list at 0

-- a list after something was put in: it is the list with it, unless that would have over 64
abbrev pub Put : {T : Type 0} → List ℕ → List ℕ → Result T Breach → Type 0
Put grown after r = MatchResult r (λ _. after ≡ grown) (λ e. (e ≡ TooManyProviders) × (64 < length grown))

-- with the provider of the days of entries `from` .. `to` - 1, if there is one
abbrev pub insert_run : ℕ → ℕ → ℕ → List ℕ → List ℕ
insert_run p from to ps = cond (ltb from to) (insert p ps) ps

-- the list with the providers of a point's charged days
abbrev pub point_providers : Tariff → Point → List ℕ → List ℕ
point_providers tariff point ps = insert_days point (charged_from tariff point.supply) (charged_count tariff point.supply) ps

-- with the providers of the point at a position, and the position after the point
pub record WithPoint (file : List ℕ) (at year : ℕ) (before after : List ℕ) (r : Result Cursor Breach) : Type 0 where
  pub put : (tariff : Tariff) → tariff.year ≡ year → Put (point_providers tariff (point_at file at) before) after r
  pub ends : IfOk r (λ next. next.at ≡ after_point at (point_at file at))

-- a list is an accepted file's providers, at most 64
pub record ProvidersOf (b : List ℕ) (list : List ℕ) : Type 0 where
  pub few : length list ≤ 64
  pub is : list ≡ providers_of (decode b).tariff (decode b).points
