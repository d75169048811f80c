-- What `exact::long_product` leaves: a front of a, times b, at no bit, at one bit more and with a quotient that fits. Assumes nothing.
use Rattle.std.proofs.Common.{◌+◌, ◌*◌, ◌/◌, ◌%◌, ◌^◌, ap, ◌∙◌, arith}
use native.Mathlib.Nat.{div-add-mod', mod-lt}
use Rattle.exact.specs.Parts.{value}
use Rattle.exact.proofs.Laws.{front_more, front_fits, front_none}
use Rattle.exact.proofs.long_product.Goals as goal

pub loop-k-init : goal.loop-k-init
loop-k-init c =
    record { small = c.requires.0; is = omega (arith, ap (λ z. z * c.args.b) (front_none c.args.a (omega arith))) }

pub twice_plus-p-requires : goal.twice_plus-p-requires
twice_plus-p-requires c =
    let a = c.args.a in
    let b = c.args.b in
    let d = c.args.d in
    let l = c.loop-k in
    (l.invariant.small, mod-lt b c.requires.0, front_fits a b l.k d (2 ^ 64) (value l.p d) (b / d * d + b % d) c.requires.1 c.loop-k-test.true l.invariant.is (div-add-mod' b d))

pub loop-k-preserved : goal.loop-k-preserved
loop-k-preserved c =
    let a = c.args.a in
    let b = c.args.b in
    let d = c.args.d in
    let l = c.loop-k in
    let of = c.twice_plus-p.ensures in
    record { small = of.small; is = of.is ∙ front_more a b l.k (value l.p d) (b / d * d + b % d) c.loop-k-test.true l.invariant.is (div-add-mod' b d) }
