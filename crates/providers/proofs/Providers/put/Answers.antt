-- `Providers::put` meets its contract: the number is there, or it is put in its place, or there is no room. Assumes nothing.
use Rattle.providers.proofs.Providers.put.Goals.{After-try_push, After-last_to, else-at-len-via-then-at-len+else-deref-at, else-at-len-via-else-at-len}
use mathlib.Core.Path.{◌≡◌, refl, ap, sym, ◌∙◌}
use Prim.Native.Nat.{◌<◌}
use native.Mathlib.Omega.{arith}
use borrow.Author.Rules.{rules}
use lib.ListN.{get_or, length}
use Rattle.std.specs.List.{refill, length_refill}
use Rattle.rules.proofs.Exits.{handed_on}
use Rattle.rules.specs.Lists.{insert}
use Rattle.providers.proofs.Insert.{there, put_in, longer, insert_kept, where_ok, told}
use Rattle.providers.proofs.Providers.put.Goals as goal

pub returns-then-deref-at : goal.returns-then-deref-at
returns-then-deref-at c = there _ _ _ (rw c.as_slice.ensures.value at c.place-at.ensures) (omega arith) (rw c.deref.ensures.0 at c.if-deref-at.true)

absent : (c : After-try_push) → c.place-at.result < length c.args.self.now.list.items → get_or c.args.self.now.list.items c.place-at.result 0 ≡ c.args.p → ⊥
absent c h e = elim c.else-at-len.branch [ else-at-len-via-then-at-len+else-deref-at w ↦ omega (arith, ap (λ xs. get_or xs c.place-at.result 0) w.deref.ensures.0) | else-at-len-via-else-at-len w ↦ omega arith ]

pub returns-in_err-map_err : goal.returns-in_err-map_err
returns-in_err-map_err c =
    let over = told c.try_push.result _ _ _ c.in_err-map_err.ensures.variant c.try_push.ensures.full (λ e h. search rules) c.in_err-map_err.ensures.cases in
    let more = longer _ c.args.p _ (rw c.as_slice.ensures.value at c.place-at.ensures) (absent (goal.at.returns-in_err-map_err c).After-try_push) in
    rw (handed_on c.from_residual.ensures.1) (over.0, omega (arith, more, over.1))

inserted : (c : After-last_to) → refill (length c.try_push.new.self.items) c.try_push.new.self.items c.last_to.new.numbers ≡ insert c.args.p c.args.self.now.list.items
inserted c =
    let pushed = where_ok c.try_push.result (sym c.in_ok-map_err.ensures.variant) c.try_push.ensures.ok in
    let placed = rw c.as_slice.ensures.value at c.place-at.ensures in
    put_in _ _ _ c.args.p _ placed (absent (goal.at.After-last_to c).After-try_push) pushed (λ front last same. c.last_to.ensures front last (c.as_mut_slice.ensures.value ∙ same))

pub invariant_of-self-2 : goal.invariant_of-self-2
invariant_of-self-2 c =
    let same = inserted (goal.at.invariant_of-self-2 c).After-last_to in
    record {
      few = omega (arith, length_refill _ c.try_push.new.self.items c.last_to.new.numbers refl, ap length c.as_mut_slice.ensures.value);
      ascend = rw same (insert_kept c.args.p c.args.self.now.list.items c.args.self.now.ascend);
    }

pub returns : goal.returns
returns c = inserted (goal.at.returns c).After-last_to
