-- `block_judge::new_order_bytes` meets its contract: call by call what is left to walk ends alike, and the bytes after the last call are blank. Assumes nothing.
use Rattle.block.specs.Loops.{bytes_end, bytes-clear}
use Rattle.block.specs.Walk.{judge_entry}
use native.Mathlib.Omega.{arith}
use mathlib.Core.Path.{refl, ◌∙◌}
use Rattle.block_judge.proofs.new_order_bytes.Goals as goal

pub returns-then-count-le3 : goal.returns-then-count-le3
returns-then-count-le3 c =
    let c3 = c in
    let c2 = c3 in
    let c1 = c2 in
    let a = c1.args in
    bytes_end (judge_entry a.msg.now) 0x38 a.count a.bits.now 3 _ _ c.if-count-le3.true (c3.judge_next-c.ensures.0 ∙ c2.judge_next-b.ensures.0 ∙ c1.judge_next-a.ensures.0)

pub judge_next-g-requires : goal.judge_next-g-requires
judge_next-g-requires c = let p = c.requires in (p.0, p.1, omega arith, omega arith, refl, c.judge_next-f.ensures.1)

pub judge_next-h-requires : goal.judge_next-h-requires
judge_next-h-requires c = let p = c.requires in (p.0, p.1, omega arith, omega arith, refl, c.judge_next-g.ensures.1)

pub judge_next-i-requires : goal.judge_next-i-requires
judge_next-i-requires c = let p = c.requires in (p.0, p.1, omega arith, omega arith, refl, c.judge_next-h.ensures.1)

pub judge_next-requires : goal.judge_next-requires
judge_next-requires c = let p = c.requires in (p.0, p.1, omega arith, omega arith, refl, c.judge_next-i.ensures.1)

pub returns : goal.returns
returns c =
    let c9 = c in
    let c8 = c9 in
    let c7 = c8 in
    let c6 = c7 in
    let c5 = c6 in
    let c4 = c5 in
    let c3 = c4 in
    let c2 = c3 in
    let c1 = c2 in
    let start = c1 in
    let a = start.args in
    bytes-clear (judge_entry a.msg.now) 0x38 a.count a.bits.now 10 _ start.requires.2
    ∙ c.judge_next.ensures.0
    ∙ c9.judge_next-i.ensures.0
    ∙ c8.judge_next-h.ensures.0
    ∙ c7.judge_next-g.ensures.0
    ∙ c6.judge_next-f.ensures.0
    ∙ c5.judge_next-e.ensures.0
    ∙ c4.judge_next-d.ensures.0
    ∙ c3.judge_next-c.ensures.0
    ∙ c2.judge_next-b.ensures.0
    ∙ c1.judge_next-a.ensures.0
