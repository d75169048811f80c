-- `Places::place` meets its contract: p stands at the place that is tried, or the numbers below it end where the list's halves do. Assumes nothing.
use native.Mathlib.Omega.{arith}
use borrow.Author.Rules.{rules}
use borrow.Author.Tests.{ltb-true, ltb-false}
use lib.Dec.{ltb}
use Rattle.std.proofs.lemmas.List.Sorted.{IsPartitionPoint-from_clause, IsPartitionedBy-ltb, IsNonDecreasingBy-from_default}
use Rattle.rules.proofs.Lists.{ordered}
use Rattle.providers.proofs.Places.place.Goals as goal

pub returns : goal.returns
returns c =
    let list = c.args.list.now in
    let at = c.partition_point-at.result in
    let parted = IsPartitionedBy-ltb (λ q. q) list c.args.p (IsNonDecreasingBy-from_default (λ q. q) list 0 (ordered list _ c.requires)) in
    let point = IsPartitionPoint-from_clause (λ q. ltb q c.args.p) list at c.partition_point-at.ensures.partitioned parted (λ a r f k. search rules) in
    record {
      within = c.partition_point-at.ensures.bound;
      below = λ k h. ltb-true _ _ (point.0 k 0 (omega arith) h);
      here = λ h. ltb-false _ _ (point.1 at 0 (omega arith) h);
    }
