-- `records::Checked::first_point` meets its contract: of the bands there are as many as the header says, and they end within the file. Assumes
-- nothing.
use mathlib.Core.Path.{◌∙◌}
use native.Mathlib.Omega.{arith}
use Rattle.records.proofs.Walk.{past_bands, first_left, left_within}
use Rattle.records.proofs.Checked.first_point.Goals as goal

pub end-requires : goal.end-requires
end-requires c =
    let file = c.args.self.now in
    let good = file.good in
    omega (arith, left_within _ (first_left _ good file.header (past_bands _ file.head file.listed)))

pub returns : goal.returns
returns c = c.end.ensures ∙ past_bands _ c.args.self.now.head c.args.self.now.listed
