-- What taking a field hands back: its value and the position after it.
use Rattle.std.specs.Prelude.{ℕ, ◌+◌, List, ◌≡◌}
use Rattle.rules.specs.Field.{field}

pub record Took (file : List ℕ) (at width value next : ℕ) : Type 0 where
  pub is : value ≡ field file at width
  pub after : next ≡ at + width
