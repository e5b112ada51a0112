-- `block_judge::judge_field` meets its contract: the part of the message that `agrees` is asked of is the field, where it is there. Assumes nothing.
use Rattle.block_judge.proofs.One.{past_end, there}
use Rattle.block_judge.specs.State.{judging}
use Rattle.block.specs.Walk.{worse_of}
use native.Mathlib.Omega.{arith}
use mathlib.Core.Path.{ap, ◌∙◌}
use Rattle.block_judge.proofs.judge_field.Goals as goal

pub returns-then-msg-end : goal.returns-then-msg-end
returns-then-msg-end c = let a = c.args in (past_end a.msg.now a.width a.kind (judging a.t) c.if-msg-end.true, omega arith)

pub returns : goal.returns
returns c =
    let a = c.args in (
      there a.msg.now a.width a.kind (judging a.t) (omega arith)
          (c.worse-wrong.ensures ∙ ap (worse_of a.t.at a.t.wrong) c.agrees.ensures),
      omega arith,
    )
