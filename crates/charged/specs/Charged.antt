-- The charged days that a point has by its file's year and its own days of connection and disconnection.
use Rattle.std.specs.Prelude.{ℕ, ◌-◌, ◌≤◌, min, ◌≡◌, List, [], ◌∷◌}
use Rattle.rules.specs.File.{Tariff, Supply}
use Rattle.rules.specs.Charges.{charged_from, charged_count}
use Rattle.charged.specs.declared.Charged.{Charged}

pub record ChargedOf (year connected disconnected : ℕ) (r : Charged) : Type 0 where
  pub days : (tariff : Tariff) (supply : Supply) → tariff.year ≡ year → supply.connected ≡ connected → supply.disconnected ≡ disconnected →
      (r.from.0 ≡ charged_from tariff supply) × (r.count.0 ≡ charged_count tariff supply)
  pub few : r.count.0 ≤ 366

-- of n days from `start` on, the entry of the first of some records that have a day, and n where there is none
unfoldable pub first_entry : {A : Type 0} → (A → ℕ) → ℕ → ℕ → List A → ℕ
first_entry day n start [] = n
first_entry day n start (a ∷ records) = min (day a - start) n
