-- `block_write::give::give_loop` meets its contract. The loop's invariant: the message keeps its length, and the walk over the places of the other bytes,
-- from the state reached, ends as the walk over all; what they select fits. Assumes nothing.
use mathlib.Core.Path.{refl, ◌∙◌}
use native.Mathlib.Omega.{arith}
use Rattle.block.specs.Walk.{any_byte, give_entry}
use Rattle.block.specs.Loops.{byte_turn, bytes_end}
use Rattle.block.specs.Fits.{left-turn}
use Rattle.block_write.specs.State.{giving}
use Rattle.block_write.proofs.give.give_loop.Goals as goal

pub loop-j-init : goal.loop-j-init
loop-j-init c = (omega arith, refl, c.requires.3, refl)

pub give_any-at-requires : goal.give_any-at-requires
give_any-at-requires c =
    let in-loop = c in
    let at-loop = in-loop in
    let start = at-loop in
    let a = start.args in
    let inv = at-loop.loop-j.invariant in
    (start.requires.0, omega arith, omega (arith, inv.1, inv.2, left-turn a.message a.count a.bits.now at-loop.loop-j.j _ in-loop.loop-j-test.true start.requires.2 refl))

pub loop-j-preserved : goal.loop-j-preserved
loop-j-preserved c =
    let given = c in
    let in-loop = given in
    let at-loop = in-loop in
    let start = at-loop in
    let a = start.args in
    let inv = at-loop.loop-j.invariant in (
      omega arith,
      given.give_any-at.auto.out ∙ inv.1,
      omega (arith, given.give_any-at.ensures.1, inv.2, left-turn a.message a.count a.bits.now at-loop.loop-j.j _ in-loop.loop-j-test.true start.requires.2 refl),
      byte_turn (any_byte (give_entry a.layout.now)) a.message a.count a.bits.now at-loop.loop-j.j _ (giving at-loop.loop-j.at at-loop.loop-j.out) _ _ in-loop.loop-j-test.true start.requires.2 refl given.give_any-at.ensures.0 inv.3,
    )

pub shape_of-out : goal.shape_of-out
shape_of-out c = c.loop-j.invariant.1

pub returns : goal.returns
returns c =
    let at-loop = c in
    let a = at-loop.args in
    bytes_end (any_byte (give_entry a.layout.now)) a.message a.count a.bits.now at-loop.loop-j.j (giving at-loop.loop-j.at at-loop.loop-j.out) _ c.loop-j-test.false at-loop.loop-j.invariant.3
