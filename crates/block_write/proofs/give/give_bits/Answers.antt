-- `block_write::give::give_bits` meets its contract. The loop's invariant: the message keeps its length, and the walk over the byte's other bits, from
-- the state reached, ends as the walk over all eight; what they select is what is left of what all eight select. Assumes nothing.
use mathlib.Core.Path.{refl, ◌∙◌}
use native.Mathlib.Omega.{arith}
use Rattle.block.specs.Loops.{bit-turn, bits_end_lem}
use Rattle.block.specs.Walk.{give_entry}
use Rattle.block.specs.Fits.{take-turn}
use Rattle.block_write.specs.State.{giving}
use Rattle.block_write.proofs.Given.{take_end}
use Rattle.block_write.proofs.give.give_bits.Goals as goal

pub loop-bit-init : goal.loop-bit-init
loop-bit-init c = (omega arith, refl, refl, refl)

pub give_bit-at-requires : goal.give_bit-at-requires
give_bit-at-requires c =
    let at-loop = c in
    let start = at-loop in
    let a = start.args in
    let inv = at-loop.loop-bit.invariant in
    (start.requires.0, omega (arith, inv.1, inv.2, start.requires.3, take-turn a.message a.byte at-loop.loop-bit.bit at-loop.loop-bit.x (omega arith)))

pub loop-bit-preserved : goal.loop-bit-preserved
loop-bit-preserved c =
    let given = c in
    let at-loop = given in
    let a = at-loop.args in
    let inv = at-loop.loop-bit.invariant in (
      omega arith,
      given.give_bit-at.auto.out ∙ inv.1,
      omega (arith, given.give_bit-at.ensures.1, inv.2, take-turn a.message a.byte at-loop.loop-bit.bit at-loop.loop-bit.x (omega arith)),
      bit-turn (give_entry a.layout.now) a.message a.byte at-loop.loop-bit.bit at-loop.loop-bit.x (giving at-loop.loop-bit.at at-loop.loop-bit.out) _ _ (omega arith) given.give_bit-at.ensures.0 inv.3,
    )

pub shape_of-out : goal.shape_of-out
shape_of-out c = c.loop-bit.invariant.1

pub returns : goal.returns
returns c =
    let at-loop = c in
    let a = at-loop.args in
    let inv = at-loop.loop-bit.invariant in
    (bits_end_lem (give_entry a.layout.now) a.message a.byte at-loop.loop-bit.bit at-loop.loop-bit.x (giving at-loop.loop-bit.at at-loop.loop-bit.out) _ (omega arith) inv.3, omega (arith, inv.2, take_end a.message a.byte at-loop.loop-bit.bit at-loop.loop-bit.x (omega arith)))
