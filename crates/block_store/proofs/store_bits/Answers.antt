-- `block_store::store_bits` meets its contract. The loop's invariant: the layout keeps its length, what the byte's other bits take ends where all
-- eight end, and so does the walk over them, from the state reached. Assumes nothing.
use mathlib.Core.Path.{refl, ◌∙◌}
use native.Mathlib.Omega.{arith}
use Rattle.block.specs.Walk.{store_entry}
use Rattle.block.specs.Loops.{bit-turn, bits_end_lem}
use Rattle.block.specs.Fits.{take-turn}
use Rattle.block_store.specs.State.{storing}
use Rattle.block_store.proofs.Passed.{take_end}
use Rattle.block_store.proofs.store_bits.Goals as goal

pub loop-bit-init : goal.loop-bit-init
loop-bit-init c = (omega arith, refl, refl, refl)

pub store_bit-at-requires : goal.store_bit-at-requires
store_bit-at-requires c =
    let at-loop = c in
    let a = at-loop.args in
    omega (arith, at-loop.loop-bit.invariant, take-turn a.message a.byte at-loop.loop-bit.bit at-loop.loop-bit.x (omega arith))

pub loop-bit-preserved : goal.loop-bit-preserved
loop-bit-preserved c =
    let put = c in
    let at-loop = put in
    let a = at-loop.args in
    let inv = at-loop.loop-bit.invariant in (
      omega arith,
      put.store_bit-at.auto.layout ∙ inv.1,
      omega (arith, put.store_bit-at.ensures.1, inv.2, take-turn a.message a.byte at-loop.loop-bit.bit at-loop.loop-bit.x (omega arith)),
      bit-turn (store_entry a.msg.now) a.message a.byte at-loop.loop-bit.bit at-loop.loop-bit.x (storing at-loop.loop-bit.at at-loop.loop-bit.layout) _ _ (omega arith) put.store_bit-at.ensures.0 inv.3,
    )

pub shape_of-layout : goal.shape_of-layout
shape_of-layout c = c.loop-bit.invariant.1

pub returns : goal.returns
returns c =
    let at-loop = c in
    let a = at-loop.args in
    let inv = at-loop.loop-bit.invariant in (
      bits_end_lem (store_entry a.msg.now) a.message a.byte at-loop.loop-bit.bit at-loop.loop-bit.x (storing at-loop.loop-bit.at at-loop.loop-bit.layout) _ (omega arith) inv.3,
      omega (arith, inv.2, take_end a.message a.byte at-loop.loop-bit.bit at-loop.loop-bit.x (omega arith)),
    )
