-- `block_write::acknowledgment_bytes` meets its contract: what is left to walk after a byte ends as what was left before it, byte after byte, and past the
-- count the walk has ended. Assumes nothing.
use mathlib.Core.Path.{sym, ◌∙◌}
use Rattle.block.specs.Loops.{bytes_end}
use Rattle.block.specs.Walk.{look_entry}
use Rattle.block_write.proofs.acknowledgment_bytes.Goals as goal

pub returns-then-count-le3 : goal.returns-then-count-le3
returns-then-count-le3 c =
    let three = c in
    let two = three in
    let one = two in
    let a = one.args in
    bytes_end look_entry 0x25 a.count a.bits.now 3 _ _ c.if-count-le3.true (three.look_next-c.ensures.0 ∙ two.look_next-b.ensures.0 ∙ one.look_next-a.ensures.0)

pub shape_of-rest : goal.shape_of-rest
shape_of-rest c =
    let rest = c in
    let five = rest in
    let four = five in
    let three = four in
    let two = three in
    let one = two in
    rest.look_rest.auto.rest ∙ five.look_next-e.ensures.1.sized ∙ sym one.requires.sized

pub returns : goal.returns
returns c =
    let rest = c in
    let five = rest in
    let four = five in
    let three = four in
    let two = three in
    let one = two in
    rest.look_rest.ensures
    ∙ five.look_next-e.ensures.0
    ∙ four.look_next-d.ensures.0
    ∙ three.look_next-c.ensures.0
    ∙ two.look_next-b.ensures.0
    ∙ one.look_next-a.ensures.0
