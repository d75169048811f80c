-- `meters::add_meters` meets its contract: what the spans have, and what the meters left will add, is what all of them have (`MetersLeft`). Assumes
-- nothing.
use Prim.Native.Nat.{◌-◌, ◌<◌}
use mathlib.Core.Path.{refl}
use native.Mathlib.Omega.{arith}
use borrow.Author.Rules.{rules}
use Rattle.rules.specs.File.{meter_at, after_meter}
use Rattle.rules.proofs.Positions.{length_records, meter_forward}
use Rattle.records.proofs.Ahead.{ahead_past, ahead_one, ahead_turn, ahead_done}
use Rattle.meters.proofs.Adding.{meters_begin, meters_ask, meters_turn, meters_end}
use Rattle.meters.proofs.add_meters.Goals as goal

pub loop-init : goal.loop-init
loop-init g c =
    let s = c.args in
    let good = c.requires.good_meters in
    let small = length_records (meter_at s.file.now) after_meter s.list.count s.list.first.at in
    (s.list.count, omega arith, record { ends = refl; holds = meters_begin _ c.default-every.ensures c.requires.cut.0 c.requires.cut.1 c.requires.cut.2 good.1.priced good.0.sound (omega (arith, good.0.few, small)) })

pub add_meter-added-requires : goal.add_meter-added-requires
add_meter-added-requires g c =
    let good = c.requires.good_meters in
    let u = c.loop.invariant in
    let h : 0 < u.0 = omega (arith, u.1) in
    let a = ahead_one u.2 h (refl, refl) (λ ms v. meters_ask _ ms v) in
    (search rules, (omega (arith, good.0.ends, ahead_past u.2 h (refl, refl) meter_forward), (good.1, (a.0, a.1))))

pub loop-preserved : goal.loop-preserved
loop-preserved g c =
    let u = c.loop.invariant in
    let h : 0 < u.0 = omega (arith, u.1) in
    (u.0 - 1, omega (arith, u.1, h), ahead_turn u.2 h (refl, c.add_meter-added.ensures.ends) (λ ms v. meters_turn _ ms v c.add_meter-added.ensures.added))

pub returns : goal.returns
returns g c =
    let u = c.loop.invariant in
    let done = ahead_done u.2 (omega (arith, u.1)) in
    record { ends = done.0; sums = meters_end done.1 }
