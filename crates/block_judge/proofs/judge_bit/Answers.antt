-- `block_judge::judge_bit` meets its contract: a bit that is not set changes nothing, and for one that is set the dictionary's entry is known in each
-- arm. Assumes nothing.
use Rattle.block.specs.Loops.{bit-set, bit_unset}
use Rattle.block.specs.Walk.{judge_here}
use Rattle.block_judge.specs.State.{judging}
use native.Mathlib.Omega.{arith}
use borrow.Author.Tests.{eq-eqb, ne_eqb}
use mathlib.Core.Path.{refl, sym, ◌∙◌}
use Rattle.block_judge.proofs.judge_bit.Goals as goal

pub returns-in-Refused : goal.returns-in-Refused
unfolding judge_here
returns-in-Refused c =
    let looked = c in
    let a = looked.args in
    (bit-set (judge_here a.msg.now a.byte) _ _ (judging a.t) (eq-eqb _ _ looked.if-x-eq1.true) (sym c.in-Refused.is ∙ looked.entry_of-e.ensures) refl, omega arith)

pub returns-in-Field : goal.returns-in-Field
unfolding judge_here
returns-in-Field c =
    let known = c in
    let looked = known in
    let a = looked.args in (
      bit-set (judge_here a.msg.now a.byte) _ _ (judging a.t) (eq-eqb _ _ looked.if-x-eq1.true) (sym known.in-Field.is ∙ looked.entry_of-e.ensures) c.judge_field.ensures.0,
      c.judge_field.ensures.1,
    )

pub returns-else-x-eq1 : goal.returns-else-x-eq1
returns-else-x-eq1 c = let a = c.args in (bit_unset (judge_here a.msg.now a.byte) _ _ (judging a.t) (ne_eqb _ _ c.if-x-eq1.false), omega arith)
