-- The sum of the discounts, which the condition's judge takes once each is in its range, fits. Assumes nothing.
use Prim.Native.Nat.{ℕ, ◌+◌, ◌<◌, ◌^◌}
use mathlib.Core.Path.{◌≡◌}
use mathlib.Core.Bool.{Bool, false, ◌&&◌, ◌||◌}
use mathlib.Mathlib.Data.Bool.Basic.{or-eq-false-eq-eq-false-and-eq-false}
use native.Mathlib.Omega.{arith}
use lib.Dec.{ltb, leb}
use borrow.Author.Tests.{ltb-false}
use Rattle.rules.specs.declared.Condition.{Condition}
use Rattle.rules.specs.declared.Service.{Service}
use Rattle.rules.specs.Calendar.{no_day}
use Rattle.rules.specs.Refusal.{is_water, condition_outside}

-- whatever tests stand before and after those of two numbers
both_small : (before after : Bool) (x y : ℕ) → (before || ltb 10000 x || ltb 10000 y || after) ≡ false → x + y < 2 ^ 64
both_small before after x y h =
    let p = (or-eq-false-eq-eq-false-and-eq-false (before || ltb 10000 x || ltb 10000 y) after).0 h in
    let q = (or-eq-false-eq-eq-false-and-eq-false (before || ltb 10000 x) (ltb 10000 y)).0 p.0 in
    let r = (or-eq-false-eq-eq-false-and-eq-false before (ltb 10000 x)).0 q.0 in
    omega (arith, ltb-false 10000 x r.1, ltb-false 10000 y q.1)

pub discounts_fit : (service : Service) (c : Condition) → condition_outside service c ≡ false → c.schedule3 + c.section29e < 2 ^ 64
discounts_fit service c h =
    both_small (leb no_day c.day || is_water service && (c.property || c.roads)) (ltb 10000000 c.rateable) c.schedule3 c.section29e h
