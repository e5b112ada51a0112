-- `block_judge::acknowledgment_bytes` meets its contract: call by call what is left to walk ends alike, and the bytes after the last call are blank. Assumes nothing.
use Rattle.block.specs.Loops.{bytes_end, bytes-clear}
use Rattle.block.specs.Walk.{judge_entry}
use mathlib.Core.Path.{◌∙◌}
use Rattle.block_judge.proofs.acknowledgment_bytes.Goals as goal

pub returns-then-count-le3 : goal.returns-then-count-le3
returns-then-count-le3 c =
    let c3 = c in
    let c2 = c3 in
    let c1 = c2 in
    let a = c1.args in
    bytes_end (judge_entry a.msg.now) 0x25 a.count a.bits.now 3 _ _ c.if-count-le3.true (c3.judge_next-c.ensures.0 ∙ c2.judge_next-b.ensures.0 ∙ c1.judge_next-a.ensures.0)

pub returns : goal.returns
returns c =
    let c4 = c in
    let c3 = c4 in
    let c2 = c3 in
    let c1 = c2 in
    let start = c1 in
    let a = start.args in
    bytes-clear (judge_entry a.msg.now) 0x25 a.count a.bits.now 5 _ start.requires.2
    ∙ c.judge_next.ensures.0
    ∙ c4.judge_next-d.ensures.0
    ∙ c3.judge_next-c.ensures.0
    ∙ c2.judge_next-b.ensures.0
    ∙ c1.judge_next-a.ensures.0
