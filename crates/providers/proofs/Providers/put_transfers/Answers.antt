-- `Providers::put_transfers` meets its contract: the days before the transfer that is read are put in. Assumes nothing.
use native.Mathlib.Omega.{arith}
use Rattle.rules.proofs.Exits.{handed_on}
use Rattle.providers.proofs.Runs.{transfers_within}
use Rattle.providers.proofs.Days.{putting_begin, putting_small, putting_turn, putting_over, putting_end}
use Rattle.providers.proofs.Providers.put_transfers.Goals as goal

pub transfer-first-requires : goal.transfer-first-requires
transfer-first-requires c = transfers_within c.requires

pub loop-left-init : goal.loop-left-init
loop-left-init c = putting_begin _ _ _ _ _ c.requires c.transfer-first.ensures

pub transfer-taken-requires : goal.transfer-taken-requires
transfer-taken-requires c = putting_small _ _ _ _ _ c.loop-left.invariant c.loop-left-test.true

pub returns-in_err-put_run : goal.returns-in_err-put_run
returns-in_err-put_run c =
    rw (handed_on c.from_residual.ensures.1) (λ point same.
    (c.in_err-put_run.ensures.0, putting_over _ _ _ _ _ c.loop-left.invariant c.loop-left-test.true c.transfer-taken.ensures c.run_end-to.ensures point same c.in_err-put_run.ensures.1))

pub loop-left-preserved : goal.loop-left-preserved
loop-left-preserved c = putting_turn _ _ _ _ _ c.loop-left.invariant c.loop-left-test.true c.transfer-taken.ensures c.run_end-to.ensures c.in_ok-put_run.ensures

pub returns : goal.returns
returns c = putting_end _ _ _ _ _ c.loop-left.invariant (omega arith)
