-- `order_reader::check_late` meets its contract. Assumes nothing.
use Rattle.refusals.specs.Outcomes.{outcome}
use Rattle.orders.proofs.Refusing.{tells_none}
use Rattle.orders.specs.LateBytes.{never_late}
use Rattle.orders.specs.Late.{late_refusal}
use Rattle.orders.specs.Orders.{layout_of}
use Rattle.block.specs.Slots.{takes, sum}
use Rattle.block.specs.Places.{slots_of, has_required}
use lib.ListN.{length}
use Prim.Native.Nat.{ℕ}
use mathlib.Core.Bool.{true}
use mathlib.Core.Path.{◌≡◌, sym, ap, ◌∙◌, subst}
use Rattle.order_reader.proofs.check_late.Goals as goal

pub check_modify-requires : goal.check_modify-requires
check_modify-requires c =
    let start = c in
    let a = start.args in
    let e : a.message ≡ 0x3A = c.in-58.is in (
      start.requires.0,
      subst (λ (m : ℕ). has_required m a.count a.bits.now ≡ true) e start.requires.1,
      subst (λ (m : ℕ). sum takes (slots_of m a.count a.bits.now) ≡ length a.optional.now) e start.requires.2,
    )

pub check_purge-requires : goal.check_purge-requires
check_purge-requires c =
    let start = c in
    let a = start.args in
    let e : a.message ≡ 0x47 = c.in-71.is in (
      start.requires.0,
      subst (λ (m : ℕ). has_required m a.count a.bits.now ≡ true) e start.requires.1,
      subst (λ (m : ℕ). sum takes (slots_of m a.count a.bits.now) ≡ length a.optional.now) e start.requires.2,
    )

pub returns-in-58 : goal.returns-in-58
returns-in-58 c =
    let start = c in
    let a = start.args in
    let e : a.message ≡ 0x3A = c.in-58.is in
    c.check_modify.ensures ∙ ap (λ (m : ℕ). outcome (late_refusal m a.count a.bits.now (layout_of m a.count a.bits.now a.optional.now))) (sym e)

pub returns-in-71 : goal.returns-in-71
returns-in-71 c =
    let start = c in
    let a = start.args in
    let e : a.message ≡ 0x47 = c.in-71.is in
    c.check_purge.ensures ∙ ap (λ (m : ℕ). outcome (late_refusal m a.count a.bits.now (layout_of m a.count a.bits.now a.optional.now))) (sym e)

pub returns-in_default : goal.returns-in_default
returns-in_default c = tells_none (never_late _ _ _ _ c.in_default.in_default-own.rest.0.1 c.in_default.in_default-own.rest.1)
