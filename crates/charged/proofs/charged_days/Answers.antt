-- `charged::charged_days` returns what `charged_of` makes of the year's ends. Assumes nothing.
use Rattle.std.proofs.Common.{arith}
use Rattle.std.proofs.lemmas.Bool.Decides.{nat_tests}
use Rattle.charged.proofs.Days.{charged_of}
use Rattle.charged.proofs.charged_days.Goals as goal

pub returns : goal.returns
returns c = charged_of _ _ _ c.requires.0 (grind (arith, nat_tests)) (grind (arith, nat_tests))
