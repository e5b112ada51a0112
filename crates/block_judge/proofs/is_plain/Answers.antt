-- `block_judge::is_plain` meets its contract, arm by arm. Assumes nothing.
use Rattle.block_judge.proofs.Lines.{in_new_order, in_cancel_order, in_acknowledgment, in_execution, in_others}
use mathlib.Core.Path.{◌∙◌}
use Rattle.block_judge.proofs.is_plain.Goals as goal

pub returns-in-56 : goal.returns-in-56
returns-in-56 c = let a = c.args in c.is_blank_after.ensures ∙ in_new_order a.message a.count a.bits.now c.in-56.is

pub returns-in-57 : goal.returns-in-57
returns-in-57 c = let a = c.args in c.is_blank_after-in-57.ensures ∙ in_cancel_order a.message a.count a.bits.now c.in-57.is

pub returns-in-37 : goal.returns-in-37
returns-in-37 c = let a = c.args in c.is_blank_after-in-37.ensures ∙ in_acknowledgment a.message a.count a.bits.now c.in-37.is

pub returns-in-44 : goal.returns-in-44
returns-in-44 c = let a = c.args in c.is_blank_after-in-44.ensures ∙ in_execution a.message a.count a.bits.now c.in-44.is

pub returns-in_default : goal.returns-in_default
returns-in_default c =
    let a = c.args in
    let r = c.in_default.in_default-own.rest in
    in_others a.message a.count a.bits.now r.0.0.0.1 r.0.0.1 r.0.1 r.1
