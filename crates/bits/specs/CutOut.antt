-- What cutting a field out of a group of fields hands back: the group without the `below` bits after the field and without those before it.
use Rattle.std.specs.Prelude.{ℕ, ◌/◌, ◌%◌, ◌^◌, ◌≡◌}

pub record CutOut (group width below value : ℕ) : Type 0 where
  pub is : value ≡ group / 2 ^ below % 2 ^ width
