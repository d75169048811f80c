-- `records::condition` meets its contract: its two groups of fields, taken apart. Assumes nothing.
use mathlib.Core.Path.{◌∙◌}
use Rattle.records.proofs.condition.Goals as goal

pub returns : goal.returns
returns c = (c.from-value.ensures ∙ c.condition_groups-taken.ensures.0, c.condition_groups-taken.ensures.1)
