-- What every advance meets.
use Rattle.std.specs.Prelude.{ℕ, ◌+◌, ◌≤◌, ◌<◌}

-- an advance of an accepted file: less than 10 ^ 8 counts of 1,000 litres, over at most 3,660 days
pub record Spreadable (litres parts first last : ℕ) : Type 0 where
  pub few : litres ≤ 100000000000
  pub whole : parts ≤ 10000
  pub some : first < last
  pub near : last ≤ first + 3660
