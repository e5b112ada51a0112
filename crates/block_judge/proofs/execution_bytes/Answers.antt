-- `block_judge::execution_bytes` meets its contract: call by call what is left to walk ends alike, and the bytes after the last call are blank. Assumes nothing.
use Rattle.block.specs.Loops.{bytes-clear}
use Rattle.block.specs.Walk.{judge_entry}
use mathlib.Core.Path.{◌∙◌}
use Rattle.block_judge.proofs.execution_bytes.Goals as goal

pub returns : goal.returns
returns c =
    let c2 = c in
    let c1 = c2 in
    let start = c1 in
    let a = start.args in
    bytes-clear (judge_entry a.msg.now) 0x2C a.count a.bits.now 3 _ start.requires.2
    ∙ c.judge_next.ensures.0
    ∙ c2.judge_next-b.ensures.0
    ∙ c1.judge_next-a.ensures.0
