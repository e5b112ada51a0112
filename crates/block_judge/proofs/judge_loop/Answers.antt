-- `block_judge::judge_loop` meets its contract. The loop's invariant: the walk over the places of the other bytes, from the state reached, ends as the
-- walk over all. Assumes nothing.
use Rattle.block_judge.specs.State.{judging}
use Rattle.block.specs.Loops.{byte_turn, bytes_end}
use Rattle.block.specs.Walk.{judge_entry}
use native.Mathlib.Omega.{arith}
use mathlib.Core.Path.{refl}
use Rattle.block_judge.proofs.judge_loop.Goals as goal

pub loop-j-init : goal.loop-j-init
loop-j-init c = (omega arith, omega arith, refl)

pub loop-j-preserved : goal.loop-j-preserved
loop-j-preserved c =
    let in-loop = c in
    let at-loop = in-loop in
    let start = at-loop in
    let a = start.args in
    let t = c.judge_any-r.ensures in (
      omega arith,
      omega (arith, t.1),
      byte_turn (judge_entry a.msg.now) a.message a.count a.bits.now at-loop.loop-j.j _ (judging at-loop.loop-j.r) _ _ in-loop.loop-j-test.true (omega arith) refl t.0 at-loop.loop-j.invariant.2,
    )

pub returns : goal.returns
returns c =
    let at-loop = c in
    let a = at-loop.args in
    bytes_end (judge_entry a.msg.now) a.message a.count a.bits.now at-loop.loop-j.j (judging at-loop.loop-j.r) _ c.loop-j-test.false at-loop.loop-j.invariant.2
