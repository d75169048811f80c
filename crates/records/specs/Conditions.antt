-- A condition by its groups of fields.
use Rattle.std.specs.Prelude.{◌/◌, ◌%◌, ◌^◌, eqb}
use Rattle.rules.specs.declared.Condition.{Condition}
use Rattle.records.specs.declared.Groups.{Groups}

-- the condition of its groups: each field is what is cut out of them by its width and the bits after it, and a flag is set where its bit is 1
unfoldable pub condition_of : Groups → Condition
condition_of g =
    record {
      day = g.state / 2 ^ 32 % 2 ^ 16;
      vacant = eqb (g.state / 2 ^ 31 % 2 ^ 1) 1;
      disconnected = eqb (g.state / 2 ^ 30 % 2 ^ 1) 1;
      property = eqb (g.state / 2 ^ 29 % 2 ^ 1) 1;
      roads = eqb (g.state / 2 ^ 28 % 2 ^ 1) 1;
      schedule3 = g.state / 2 ^ 14 % 2 ^ 14;
      section29e = g.state / 2 ^ 0 % 2 ^ 14;
      rateable = g.rateable;
    }
