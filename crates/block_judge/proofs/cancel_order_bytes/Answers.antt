-- `block_judge::cancel_order_bytes` meets its contract: call by call what is left to walk ends alike, and the bytes after the last call are blank. Assumes nothing.
use Rattle.block.specs.Loops.{bytes-clear}
use Rattle.block.specs.Walk.{judge_entry}
use mathlib.Core.Path.{◌∙◌}
use Rattle.block_judge.proofs.cancel_order_bytes.Goals as goal

pub returns : goal.returns
returns c =
    let start = c in
    let a = start.args in
    bytes-clear (judge_entry a.msg.now) 0x39 a.count a.bits.now 1 _ start.requires.2 ∙ c.judge_next.ensures.0
