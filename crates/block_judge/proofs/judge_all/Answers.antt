-- `block_judge::judge_all` meets its contract: a message that is plain goes by its own line, any other by the loop. Assumes nothing.
use Rattle.block_judge.proofs.Lines.{in_new_order, in_cancel_order, in_acknowledgment, in_execution, only_execution}
use Rattle.block_judge.specs.State.{begun, judge_walk}
use Rattle.block.specs.Loops.{bytes_end}
use Rattle.block.specs.Walk.{judge_entry}
use Rattle.block.specs.Sizes.{all_places}
use native.Mathlib.Omega.{arith}
use Prim.Native.Nat.{ℕ}
use mathlib.Core.Path.{refl, sym, ap, ◌∙◌}
use Rattle.block_judge.proofs.judge_all.Goals as goal

pub returns-then-count-eq0 : goal.returns-then-count-eq0
returns-then-count-eq0 c =
    let a = c.args in
    bytes_end (judge_entry a.msg.now) a.message a.count a.bits.now 0 begun _ (omega arith) refl

pub judge_new_order-requires : goal.judge_new_order-requires
judge_new_order-requires c =
    let asked = c in
    let start = asked in
    let a = start.args in
    let p = sym asked.is_plain.ensures ∙ c.if-not-is_plain.false in
    (omega arith, start.requires.1, in_new_order a.message a.count a.bits.now c.in-56.is ∙ p, refl)

pub cancel_order_bytes-requires : goal.cancel_order_bytes-requires
cancel_order_bytes-requires c =
    let asked = c in
    let start = asked in
    let a = start.args in
    let p = sym asked.is_plain.ensures ∙ c.if-not-is_plain.false in
    (omega arith, start.requires.1, in_cancel_order a.message a.count a.bits.now c.in-57.is ∙ p, refl)

pub judge_acknowledgment-requires : goal.judge_acknowledgment-requires
judge_acknowledgment-requires c =
    let asked = c in
    let start = asked in
    let a = start.args in
    let p = sym asked.is_plain.ensures ∙ c.if-not-is_plain.false in
    (omega arith, start.requires.1, in_acknowledgment a.message a.count a.bits.now c.in-37.is ∙ p, refl)

pub judge_execution-requires : goal.judge_execution-requires
judge_execution-requires c =
    let asked = c in
    let start = asked in
    let a = start.args in
    let p = sym asked.is_plain.ensures ∙ c.if-not-is_plain.false in
    let r = c.in_default.in_default-own.rest in
    (omega arith, start.requires.1, in_execution a.message a.count a.bits.now (only_execution a.message a.count a.bits.now r.0.0.1 r.0.1 r.1 p) ∙ p, refl)

pub returns-in-56 : goal.returns-in-56
returns-in-56 c =
    let arm = c in
    let asked = arm in
    let a = asked.args in
    c.judge_new_order.ensures ∙ ap (λ (n : ℕ). judge_walk n a.count a.bits.now a.msg.now all_places 0 begun) (sym arm.in-56.is)

pub returns-in-57 : goal.returns-in-57
returns-in-57 c =
    let arm = c in
    let asked = arm in
    let a = asked.args in
    c.cancel_order_bytes.ensures ∙ ap (λ (n : ℕ). judge_walk n a.count a.bits.now a.msg.now all_places 0 begun) (sym arm.in-57.is)

pub returns-in-37 : goal.returns-in-37
returns-in-37 c =
    let arm = c in
    let asked = arm in
    let a = asked.args in
    c.judge_acknowledgment.ensures ∙ ap (λ (n : ℕ). judge_walk n a.count a.bits.now a.msg.now all_places 0 begun) (sym arm.in-37.is)

pub returns-in_default : goal.returns-in_default
returns-in_default c =
    let arm = c in
    let asked = arm in
    let a = asked.args in
    let r = arm.in_default.in_default-own.rest in
    c.judge_execution.ensures ∙ ap (λ (n : ℕ). judge_walk n a.count a.bits.now a.msg.now all_places 0 begun) (sym (only_execution a.message a.count a.bits.now r.0.0.1 r.0.1 r.1 (sym asked.is_plain.ensures ∙ arm.if-not-is_plain.false)))
