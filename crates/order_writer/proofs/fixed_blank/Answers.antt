-- `order_writer::fixed_blank` meets its contract: in each arm the bytes that are not used are those after the literal place, in two windows; a Purge
-- Orders alone has a middle. Assumes nothing.
use mathlib.Core.Path.{sym, ap, ◌∙◌}
use mathlib.Core.Logic.{⊎_elim}
use Prim.Native.Nat.{ℕ, ◌-◌}
use native.Mathlib.Omega.{arith}
use lib.ListN.{drop, drop_of_length-le}
use Rattle.kinds.specs.Kinds.{all_nul}
use Rattle.block.specs.Sizes.{fixed_size}
use Rattle.orders.specs.Shapes.{count_at}
use Rattle.orders.specs.Middle.{middle_size, middle_good}
use Rattle.orders.proofs.OrderLaws.{in_new_order, in_cancel_order, in_acknowledgment, in_execution, in_modify_order, in_others}
use Rattle.order_writer.proofs.Held.{unused_is, unused_windows}
use Rattle.order_writer.proofs.fixed_blank.Goals as goal

pub purge_blank-requires : goal.purge_blank-requires
unfolding count_at
purge_blank-requires c =
    let start = c in
    let a = start.args in
    (start.requires.0, ap (λ (t : ℕ). middle_good t a.count a.bits.now (drop (count_at t - 10) a.fixed.now)) (sym c.in-71.is) ∙ start.requires.1)

pub returns-in-56 : goal.returns-in-56
returns-in-56 c =
    let arm = c in
    let e = arm.in-56.is in
    c.two_blank.ensures ∙ unused_windows _ _ _ _ 25 64 74 16 arm.requires.0 (omega arith) (omega arith) (⊎_elim (λ p z. omega (arith, p, z)) (λ p z. omega (arith, p, z)) e) (in_new_order _ e)

pub returns-in-57 : goal.returns-in-57
returns-in-57 c =
    let arm = c in
    let e = arm.in-57.is in
    c.two_blank-in-57.ensures ∙ unused_windows _ _ _ _ 20 64 74 16 arm.requires.0 (omega arith) (omega arith) (λ z. omega (arith, e, z)) (in_cancel_order _ e)

pub returns-in-37 : goal.returns-in-37
returns-in-37 c =
    let arm = c in
    let e = arm.in-37.is in
    c.two_blank-in-37.ensures ∙ unused_windows _ _ _ _ 37 32 58 32 arm.requires.0 (omega arith) (omega arith) (λ z. omega (arith, e, z)) (in_acknowledgment _ e)

pub returns-in-44 : goal.returns-in-44
returns-in-44 c =
    let arm = c in
    let e = arm.in-44.is in
    c.two_blank-in-44.ensures ∙ unused_windows _ _ _ _ 59 16 74 16 arm.requires.0 (omega arith) (omega arith) (λ z. omega (arith, e, z)) (in_execution _ e)

pub returns-in-58 : goal.returns-in-58
returns-in-58 c =
    let arm = c in
    let e = arm.in-58.is in
    c.two_blank-in-58.ensures ∙ unused_windows _ _ _ _ 40 32 58 32 arm.requires.0 (omega arith) (omega arith) (λ z. omega (arith, e, z)) (in_modify_order _ e)

pub returns-in-71 : goal.returns-in-71
unfolding count_at
returns-in-71 c =
    let arm = c in
    let a = arm.args in
    c.purge_blank.ensures ∙ ap (λ (t : ℕ). all_nul (drop (middle_size t a.count a.bits.now (drop (count_at t - 10) a.fixed.now)) (drop (count_at t - 10) a.fixed.now))) (sym arm.in-71.is)

pub returns-in_default : goal.returns-in_default
returns-in_default c =
    let start = c in
    let a = start.args in
    let r = c.in_default.in_default-own.rest in
    sym (unused_is _ a.count a.fixed.now a.bits.now r.1 (in_others _ r.0.0.0.0.0.1 r.0.0.0.0.1 r.0.0.0.1 r.0.0.1 r.0.1 r.1) ∙ ap all_nul (drop_of_length-le a.fixed.now {i = fixed_size} (omega (arith, start.requires.0))))
