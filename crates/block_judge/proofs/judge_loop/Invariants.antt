use Rattle.block_judge.specs.State.{judging, judge_walk}
use Prim.Native.Nat.{◌*◌, ◌-◌, ◌≤◌}
use mathlib.Core.Path.{◌≡◌}
use Rattle.block.specs.Sizes.{all_places}
use Rattle.block_judge.proofs.judge_loop.Given as goal

abbrev pub invariant-loop-j : goal.invariant-loop-j
invariant-loop-j l = (l.j ≤ l.count) × (l.r.at ≤ 2040 * l.j) × (judge_walk l.message l.count l.bits l.msg (all_places - 8 * l.j) (8 * l.j) (judging l.r) ≡ judge_walk l.message l.count l.bits l.msg all_places 0 (judging l.initial.r))
