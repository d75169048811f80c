-- `spans::add_each` meets its contract: the figures of the span become more. Assumes nothing.
use native.Mathlib.Omega.{arith}
use Rattle.spans.proofs.Written.{figures_added}
use Rattle.spans.specs.Spans.{span_in, annual_sum, allowance_sum, threshold_sum}
use Rattle.spans.proofs.add_each.Goals as goal

pub mul-requires : goal.mul-requires
mul-requires c = (omega (arith, c.requires.fits annual_sum), omega (arith, c.requires.fits allowance_sum), omega (arith, c.requires.fits threshold_sum))

pub add-span-requires : goal.add-span-requires
unfolding span_in
add-span-requires c =
    let all = c.mul.ensures in
    (omega (arith, all.annual, c.requires.fits annual_sum), omega (arith, all.allowance, c.requires.fits allowance_sum), omega (arith, all.threshold, c.requires.fits threshold_sum))

pub returns : goal.returns
unfolding span_in
returns c = figures_added _ _ c.requires.within _ c.mul.ensures c.add-span.ensures
