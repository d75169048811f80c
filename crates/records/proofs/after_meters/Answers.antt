-- `records::after_meters` meets its contract: the meters that are left end where all do. Assumes nothing.
use Prim.Native.Nat.{suc, ◌-◌}
use mathlib.Core.Path.{ap}
use native.Mathlib.Omega.{arith}
use borrow.Author.Rules.{rules}
use Rattle.rules.specs.File.{meters, after_meters}
use Rattle.records.proofs.Skip.{meter_here, meter_past, meters_done}
use Rattle.records.proofs.after_meters.Goals as goal

pub loop-init : goal.loop-init
loop-init c =
    let file = c.args.file.now in
    let first = c.args.list.first.at in
    record { rest = ap (λ n. after_meters first (meters file n first)) {y = c.args.list.count} (omega arith); small = c.requires }

pub overflow_add-count_at : goal.overflow_add-count_at
overflow_add-count_at c = omega (arith, meter_here _ c.loop.invariant)

pub take-reads-requires : goal.take-reads-requires
take-reads-requires c = (search rules, omega (arith, meter_here _ c.loop.invariant))

pub past-next-requires : goal.past-next-requires
past-next-requires c = omega (arith, meter_here _ (meter_past _ c.loop.invariant (c.args.list.count - suc c.loop.counter) (omega arith) c.take-reads.ensures))

pub loop-preserved : goal.loop-preserved
loop-preserved c = rw c.past-next.ensures (meter_past _ c.loop.invariant _ (omega arith) c.take-reads.ensures)

pub returns : goal.returns
returns c = meters_done _ c.loop.invariant (omega arith)
