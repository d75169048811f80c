-- `meters::counts_between` meets its contract: the later value less the earlier, with the rollover of the dial. Assumes nothing.
use Prim.Native.Nat.{◌+◌, ◌-◌, ◌*◌}
use mathlib.Core.Path.{ap, ◌∙◌}
use native.Mathlib.Omega.{arith}
use Rattle.rules.specs.Sums.{only}
use Rattle.rules.specs.Litres.{litres_per_count, advance}
use Rattle.meters.proofs.Advances.{advance_fits}
use Rattle.meters.proofs.counts_between.Goals as goal

pub overflow_add-result : goal.overflow_add-result
overflow_add-result c = let p = c.requires in let fits = advance_fits c.args.dial.of p.0 p.1 p.2 in omega (arith, c.only.ensures)

pub returns : goal.returns
unfolding advance litres_per_count
returns c =
    let p = c.requires in
    let s = c.args in
    let fits = advance_fits s.dial.of p.0 p.1 p.2 in (
      ap (λ rolled. (s.later.value + rolled - s.earlier.value) * 1000) (c.only.ensures ∙ ap (only s.later.rollover) s.dial.of),
      omega (arith, c.only.ensures),
    )
