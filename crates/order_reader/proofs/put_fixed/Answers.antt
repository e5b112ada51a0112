-- `order_reader::put_fixed` meets its contract: in each arm the place of the count is the type's. Assumes nothing.
use Rattle.orders.proofs.OrderLaws.{in_new_order, in_cancel_order, in_acknowledgment, in_execution, in_modify_order, in_purge_orders, in_others}
use Rattle.numbers.specs.Numbers.{patched}
use Rattle.block.specs.Slots.{zeros}
use native.Mathlib.Omega.{arith}
use lib.ListN.{take, drop}
use mathlib.Core.List.{◌++◌}
use Prim.Native.Nat.{ℕ, ◌-◌}
use mathlib.Core.Path.{sym, ap, ◌∙◌}
use Rattle.block.specs.Sizes.{fixed_end}
use Rattle.order_reader.proofs.put_fixed.Goals as goal

pub put_up_to-requires : goal.put_up_to-requires
put_up_to-requires c = (omega (arith, c.requires.0, in_new_order _ c.in-56.is), omega arith, omega arith, c.requires.1)

pub put_up_to-requires-in-57 : goal.put_up_to-requires-in-57
put_up_to-requires-in-57 c = (omega (arith, c.requires.0, in_cancel_order _ c.in-57.is), omega arith, omega arith, c.requires.1)

pub put_up_to-requires-in-37 : goal.put_up_to-requires-in-37
put_up_to-requires-in-37 c = (omega (arith, c.requires.0, in_acknowledgment _ c.in-37.is), omega arith, omega arith, c.requires.1)

pub put_up_to-requires-in-44 : goal.put_up_to-requires-in-44
put_up_to-requires-in-44 c = (omega (arith, c.requires.0, in_execution _ c.in-44.is), omega arith, omega arith, c.requires.1)

pub put_up_to-requires-in-58 : goal.put_up_to-requires-in-58
put_up_to-requires-in-58 c = (omega (arith, c.requires.0, in_modify_order _ c.in-58.is), omega arith, omega arith, c.requires.1)

pub put_up_to-requires-in-71 : goal.put_up_to-requires-in-71
put_up_to-requires-in-71 c = (omega (arith, c.requires.0, in_purge_orders _ c.in-71.is), omega arith, omega arith, c.requires.1)

pub put_up_to-requires-in_default : goal.put_up_to-requires-in_default
put_up_to-requires-in_default c =
    let r = c.in_default.in_default-own.rest in
    (omega (arith, c.requires.0, in_others _ r.0.0.0.0.0.1 r.0.0.0.0.1 r.0.0.0.1 r.0.0.1 r.0.1 r.1), omega arith, omega arith, c.requires.1)

pub returns-in-56 : goal.returns-in-56
returns-in-56 c =
    let arm = c in
    let a = arm.args in
    c.put_up_to.ensures ∙ ap (λ (n : ℕ). patched a.tail.now 0 (take (n - 10) (drop 10 a.m.now) ++ zeros (fixed_end - n))) (sym (in_new_order _ arm.in-56.is))

pub returns-in-57 : goal.returns-in-57
returns-in-57 c =
    let arm = c in
    let a = arm.args in
    c.put_up_to-in-57.ensures ∙ ap (λ (n : ℕ). patched a.tail.now 0 (take (n - 10) (drop 10 a.m.now) ++ zeros (fixed_end - n))) (sym (in_cancel_order _ arm.in-57.is))

pub returns-in-37 : goal.returns-in-37
returns-in-37 c =
    let arm = c in
    let a = arm.args in
    c.put_up_to-in-37.ensures ∙ ap (λ (n : ℕ). patched a.tail.now 0 (take (n - 10) (drop 10 a.m.now) ++ zeros (fixed_end - n))) (sym (in_acknowledgment _ arm.in-37.is))

pub returns-in-44 : goal.returns-in-44
returns-in-44 c =
    let arm = c in
    let a = arm.args in
    c.put_up_to-in-44.ensures ∙ ap (λ (n : ℕ). patched a.tail.now 0 (take (n - 10) (drop 10 a.m.now) ++ zeros (fixed_end - n))) (sym (in_execution _ arm.in-44.is))

pub returns-in-58 : goal.returns-in-58
returns-in-58 c =
    let arm = c in
    let a = arm.args in
    c.put_up_to-in-58.ensures ∙ ap (λ (n : ℕ). patched a.tail.now 0 (take (n - 10) (drop 10 a.m.now) ++ zeros (fixed_end - n))) (sym (in_modify_order _ arm.in-58.is))

pub returns-in-71 : goal.returns-in-71
returns-in-71 c =
    let arm = c in
    let a = arm.args in
    c.put_up_to-in-71.ensures ∙ ap (λ (n : ℕ). patched a.tail.now 0 (take (n - 10) (drop 10 a.m.now) ++ zeros (fixed_end - n))) (sym (in_purge_orders _ arm.in-71.is))

pub returns-in_default : goal.returns-in_default
returns-in_default c =
    let arm = c in
    let a = arm.args in
    let r = arm.in_default.in_default-own.rest in
    c.put_up_to-in_default.ensures ∙ ap (λ (n : ℕ). patched a.tail.now 0 (take (n - 10) (drop 10 a.m.now) ++ zeros (fixed_end - n))) (sym (in_others _ r.0.0.0.0.0.1 r.0.0.0.0.1 r.0.0.0.1 r.0.0.1 r.0.1 r.1))
