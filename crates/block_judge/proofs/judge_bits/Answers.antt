-- `block_judge::judge_bits` meets its contract. The loop's invariant: the walk over the byte's other bits, from the state reached, ends as the walk over
-- all eight; what was found before them is asked at the end. Assumes nothing.
use Rattle.block.specs.Loops.{bit-turn, bits_end_lem}
use Rattle.block.specs.Walk.{Judging, judge_here}
use Rattle.block.proofs.OneByte.{judge_byte}
use Rattle.block_judge.specs.State.{judging}
use native.Mathlib.Omega.{arith}
use Prim.Native.Nat.{ℕ}
use mathlib.Core.Path.{refl, ap, ◌∙◌}
use Rattle.block_judge.proofs.judge_bits.Goals as goal

pub loop-bit-init : goal.loop-bit-init
loop-bit-init c = (omega arith, omega arith, refl)

pub loop-bit-preserved : goal.loop-bit-preserved
loop-bit-preserved c =
    let at-loop = c in
    let a = at-loop.args in
    let t = c.judge_bit-r.ensures in (
      omega arith,
      omega (arith, t.1),
      bit-turn (judge_here a.msg.now a.byte) a.message a.byte at-loop.loop-bit.bit at-loop.loop-bit.x (judging at-loop.loop-bit.r) _ _ (omega arith) t.0 at-loop.loop-bit.invariant.2,
    )

pub returns : goal.returns
returns c =
    let at-loop = c in
    let start = at-loop in
    let a = start.args in
    let r = at-loop.loop-bit.r in
    let bits = bits_end_lem (judge_here a.msg.now a.byte) a.message a.byte at-loop.loop-bit.bit at-loop.loop-bit.x (judging r) _ (omega arith) at-loop.loop-bit.invariant.2 in (
      ap {B = Judging} (λ (b : ℕ). record { at = r.at; wrong = r.wrong; bad = b }) c.first_of.ensures
          ∙ judge_byte a.message a.byte start.requires.0 a.value a.msg.now (judging a.t) (judging r) bits,
      omega arith,
    )
