use Rattle.block.specs.Walk.{bits_from, in_byte, judge_here}
use Rattle.block_judge.specs.State.{judging}
use Prim.Native.Nat.{◌+◌, ◌*◌, ◌-◌, ◌≤◌}
use mathlib.Core.Path.{◌≡◌}
use Rattle.block_judge.proofs.judge_bits.Given as goal

abbrev pub invariant-loop-bit : goal.invariant-loop-bit
invariant-loop-bit l = (l.bit ≤ 8) × (l.r.at ≤ l.t.at + 255 * l.bit)
    × (bits_from (judge_here l.msg l.byte) l.message l.byte (8 - l.bit) l.bit l.x (judging l.r) ≡ in_byte (judge_here l.msg l.byte) l.message l.byte l.value (record { at = l.t.at; wrong = l.t.wrong; bad = 0 }))
