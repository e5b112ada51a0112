-- `block_judge::judge_next` meets its contract: a byte that is not there or has no set bit leaves the state. Assumes nothing.
use Rattle.block.specs.Loops.{byte_given, byte_clear}
use Rattle.block.specs.Walk.{judge_entry}
use Rattle.block_judge.specs.State.{judging}
use native.Mathlib.Omega.{arith}
use Rattle.block_judge.proofs.judge_next.Goals as goal

pub returns-then-value-eq0 : goal.returns-then-value-eq0
returns-then-value-eq0 c =
    let start = c in
    let a = start.args in
    let m = judge_entry a.msg.now in (
      byte_given m a.message a.count a.bits.now a.byte _ (judging a.t) _ (omega arith) (omega arith) c.byte_of-value.ensures (byte_clear (m a.byte) a.message a.byte _ (judging a.t) c.if-value-eq0.true),
      omega arith,
    )

pub returns : goal.returns
returns c =
    let read = c in
    let start = read in
    let a = start.args in (
      byte_given (judge_entry a.msg.now) a.message a.count a.bits.now a.byte _ (judging a.t) _ (omega arith) (omega arith) read.byte_of-value.ensures c.judge_bits.ensures.0,
      omega (arith, c.judge_bits.ensures.1),
    )
