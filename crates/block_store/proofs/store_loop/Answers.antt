-- `block_store::store_loop` meets its contract. The loop's invariant: the layout keeps its length, and the walk over the places of the other bytes,
-- from the state reached, ends as the walk over all; what they select is there. Assumes nothing.
use mathlib.Core.Path.{refl, ◌∙◌}
use native.Mathlib.Omega.{arith}
use Rattle.block.specs.Walk.{any_byte, store_entry}
use Rattle.block.specs.Loops.{byte_turn, bytes_end}
use Rattle.block.specs.Fits.{left-turn}
use Rattle.block_store.specs.State.{storing}
use Rattle.block_store.proofs.store_loop.Goals as goal

pub loop-j-init : goal.loop-j-init
loop-j-init c = (omega arith, refl, omega arith, refl)

pub store_any-at-requires : goal.store_any-at-requires
store_any-at-requires c =
    let in-loop = c in
    let at-loop = in-loop in
    let start = at-loop in
    let a = start.args in
    let inv = at-loop.loop-j.invariant in
    (inv.1 ∙ start.requires.0, omega arith, omega (arith, inv.2, left-turn a.message a.count a.bits.now at-loop.loop-j.j _ in-loop.loop-j-test.true start.requires.2 refl))

pub loop-j-preserved : goal.loop-j-preserved
loop-j-preserved c =
    let given = c in
    let in-loop = given in
    let at-loop = in-loop in
    let start = at-loop in
    let a = start.args in
    let inv = at-loop.loop-j.invariant in (
      omega arith,
      given.store_any-at.auto.layout ∙ inv.1,
      omega (arith, given.store_any-at.ensures.1, inv.2, left-turn a.message a.count a.bits.now at-loop.loop-j.j _ in-loop.loop-j-test.true start.requires.2 refl),
      byte_turn (any_byte (store_entry a.msg.now)) a.message a.count a.bits.now at-loop.loop-j.j _ (storing at-loop.loop-j.at at-loop.loop-j.layout) _ _ in-loop.loop-j-test.true start.requires.2 refl given.store_any-at.ensures.0 inv.3,
    )

pub shape_of-layout : goal.shape_of-layout
shape_of-layout c = c.loop-j.invariant.1

pub returns : goal.returns
returns c =
    let at-loop = c in
    let a = at-loop.args in
    bytes_end (any_byte (store_entry a.msg.now)) a.message a.count a.bits.now at-loop.loop-j.j (storing at-loop.loop-j.at at-loop.loop-j.layout) _ c.loop-j-test.false at-loop.loop-j.invariant.3
