use Rattle.std.proofs.Common.{rules, arith, length, drop, refl, length-append, length-drop}
use Rattle.batch.proofs.Cases.{Begun, lost_whole, cut_short, ended, read_into}
use Rattle.batch.proofs.read_case.Given as given
use Rattle.batch.proofs.read_case.Goals as goal
use Rattle.batch.proofs.read_case.Goals.{In_ok-m}

-- what is known after the first two reads
begun : (g : given.Over) (c : In_ok-m g) →
    Begun (g.R.Read.remaining c.args.input.now) (g.R.Read.remaining c.read_full.new.input) (g.R.Read.remaining c.read_full-2.new.input) c.read_full.new.space c.read_full-2.new.space (length c.args.space.now) c.number_at-size.result c.min-kept.result c.in_ok-m.m
begun g c = search (rules, lost_whole)

pub returns-then-m-kept-clause-none : goal.returns-then-m-kept-clause-none
returns-then-m-kept-clause-none g c _ = cut_short (begun g (goal.at.returns-then-m-kept-clause-none g c).In_ok-m) c.if-m-kept.true c.in_ok-m.ensures.end

pub returns-then-not-branch-clause-none : goal.returns-then-not-branch-clause-none
returns-then-not-branch-clause-none g c _ = ended (begun g (goal.at.returns-then-not-branch-clause-none g c).In_ok-m) (c.in_ok-passed_over.ensures.ended c.if-not-branch.true)

pub returns-clause-read : goal.returns-clause-read
returns-clause-read g c =
    let b = begun g (goal.at.returns-clause-read g c).In_ok-m in
    let part = c.read_full-2.new.space in
    let after = drop c.min-kept.result c.args.space.now in
    read_into b after c.if-m-kept.false (c.in_ok-passed_over.ensures.passed c.if-not-branch.false)
    (omega (arith, b.held, b.part_long, length-append part after, length-drop c.min-kept.result c.args.space.now)) refl c.number_at.ensures c.number_at-2.ensures
