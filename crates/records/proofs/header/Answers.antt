-- `header` meets its contract: the record is what is cut out of its groups, the count of points is as wide as its version's form says, and the
-- positions add up. Assumes nothing.
use mathlib.Core.Path.{ap}
use native.Mathlib.Omega.{arith}
use Rattle.rules.specs.declared.Form.{Form}
use Rattle.rules.proofs.Forms.{count_bits}
use Rattle.records.proofs.Fields.{header_taken}
use Rattle.records.proofs.header.Goals as goal

pub take-points-requires : goal.take-points-requires
take-points-requires c =
    let narrow = count_bits c.cut-version.result in
    omega (arith, narrow, ap (λ (form : Form). form.count_bits) c.of-form.ensures, c.take-opening.ensures.after)

pub returns : goal.returns
returns c = header_taken
    c.of-form.ensures
    c.take-opening.ensures c.take-points.ensures c.take-prices.ensures c.take-rates.ensures
    c.cut-version.ensures c.cut.ensures c.cut-2.ensures c.of.ensures c.cut-3.ensures c.cut-4.ensures c.cut-5.ensures c.cut-6.ensures c.cut-7.ensures c.cut-8.ensures
