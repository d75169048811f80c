-- `meters::add_reads` meets its contract: what the spans have, and what the advances left will add, is what all of them have (`ReadsLeft`). Assumes
-- nothing.
use Prim.Native.Nat.{◌-◌, ◌<◌}
use native.Mathlib.Omega.{arith}
use Rattle.rules.specs.File.{read_at, after_read, reads as reads_of}
use Rattle.rules.proofs.Positions.{forward}
use Rattle.records.proofs.Ahead.{read_past, ahead_within, ahead_one, ahead_turn}
use Rattle.meters.proofs.Advances.{reads_ask, reads_turn, no_reads, reads_begin, reads_done}
use Rattle.meters.proofs.add_reads.Goals as goal

pub returns-then-head-eq0 : goal.returns-then-head-eq0
returns-then-head-eq0 c =
    let s = c.args in
    let none = no_reads s.file.now s.head s.head.reads s.c.at s.days.from.0 {l = s.spans.now} c.if-head-eq0.true in
    record { ends = none.0; grown = none.1 }

pub read-first-requires : goal.read-first-requires
read-first-requires c = let s = c.args in omega (arith, c.requires.at_bound, forward {next = λ at r. after_read at} (λ at r. omega arith) s.c.at (reads_of s.file.now s.head.reads s.c.at))

pub loop-init : goal.loop-init
loop-init c = (c.args.head.reads - 1, omega arith, reads_begin _ _ _ _ _ (omega arith) c.read-first.ensures c.requires.good_meter.0 c.requires.room)

pub read-taken-requires : goal.read-taken-requires
read-taken-requires c = let s = c.args in omega (arith, c.requires.at_bound, ahead_within c.loop.invariant.2 (λ at r. omega arith), read_past (read_at s.file.now) (λ at r. after_read at) s.head.reads s.c.at (omega arith) c.read-first.ensures)

pub advance_of-advance-requires : goal.advance_of-advance-requires
advance_of-advance-requires c = rw c.new-dial.ensures (ahead_one c.loop.invariant.2 (omega (arith, c.loop.invariant.1)) c.read-taken.ensures (λ rs u. (u.sound, u.each.0, u.advances.0)))

pub spread_advance-s-requires : goal.spread_advance-s-requires
spread_advance-s-requires c =
    let of = rw c.new-dial.ensures at c.advance_of-advance.ensures in
    let all = ahead_one c.loop.invariant.2 (omega (arith, c.loop.invariant.1)) c.read-taken.ensures (λ rs u. reads_ask of u c.requires.good_meter.1) in
    record { cut = all.0; reached_2 = all.1.0; room = all.1.1 }

pub loop-preserved : goal.loop-preserved
loop-preserved c =
    let u = c.loop.invariant in
    let h : 0 < u.0 = omega (arith, u.1) in
    let of = rw c.new-dial.ensures at c.advance_of-advance.ensures in
    (u.0 - 1, omega (arith, u.1, h), ahead_turn u.2 h c.read-taken.ensures (λ rs v. reads_turn of v c.spread_advance-s.ensures.added c.spread_advance-s.ensures.reached))

pub returns : goal.returns
returns c =
    let both = reads_done _ _ _ _ _ (omega arith) c.read-first.ensures (omega (arith, c.loop.invariant.1)) c.loop.invariant.2 in
    record { ends = both.0; grown = both.1 }
