-- The runs of days that a point's records give, its transfers and its conditions alike: a record's goes from its own day to the next one's.
use Rattle.std.specs.Prelude.{ℕ, ◌+◌, ◌^◌, ◌≤◌, ◌<◌, ◌≡◌, List, map}
use Rattle.rules.specs.Lists.{Ascending, latest}
use Rattle.rules.specs.File.{records, after, transfers, after_transfers}
use Rattle.rules.specs.Good.{FirstBy}
use Rattle.charged.specs.Charged.{first_entry}

-- transfers as an accepted file has them: their days ascend, the first is on or before a day, and they end within the file
pub record SoundTransfers (file : List ℕ) (count at day : ℕ) : Type 0 where
  pub ascend : Ascending 0 (map (λ t. t.day) (transfers file count at))
  pub first : FirstBy day (transfers file count at)
  pub ends : after_transfers at (transfers file count at) < 2 ^ 32

-- DATED RECORDS, gone through in the order of the days: of n days from `start` on, those from entry i on have `all` by what is in force and by the
-- records that are ahead; the first of these comes at the entry `end`
pub record Walk {A B : Type 0} (day : A → ℕ) (value : A → B) (start n : ℕ) (all : ℕ → B) (i : ℕ) (now : B) (ahead : List A) (end : ℕ) : Type 0 where
  pub ascend : Ascending 0 (map day ahead)
  pub same : (j : ℕ) → i ≤ j → j < n → all j ≡ latest day value now ahead (start + j)
  pub ends : end ≡ first_entry day n start ahead

-- records of a file, of which the one ahead is read, and where the next one stands is known: so many are left with it
pub record Reading {A B : Type 0} (here : ℕ → A) (next : ℕ → A → ℕ) (day : A → ℕ) (value : A → B) (start n : ℕ) (all : ℕ → B) (i : ℕ) (now : B) (x : A) (past left end : ℕ) : Type 0 where
  pub at : ℕ
  pub read : (x ≡ here at) × (past ≡ next at (here at))
  pub within : after next at (records here next left at) < 2 ^ 32
  pub walk : Walk day value start n all i now (records here next left at) end
