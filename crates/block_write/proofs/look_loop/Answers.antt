-- `block_write::look_loop` meets its contract. The loop's invariant: what holds between two bytes, and that the walk over the places of the other bytes,
-- from the state reached, ends as the walk over all after the first `from` bytes. Assumes nothing.
use mathlib.Core.Path.{refl, sym, ◌∙◌}
use native.Mathlib.Omega.{arith}
use Rattle.block.specs.Walk.{look_entry}
use Rattle.block.specs.Loops.{byte_turn, bytes_end}
use Rattle.block_write.specs.State.{looking}
use Rattle.block_write.proofs.look_loop.Goals as goal

pub loop-j-init : goal.loop-j-init
loop-j-init c = (c.requires, refl)

pub loop-j-preserved : goal.loop-j-preserved
loop-j-preserved c =
    let looked = c in
    let in-loop = looked in
    let at-loop = in-loop in
    let start = at-loop in
    let a = start.args in
    let inv = at-loop.loop-j.invariant in
    let t = looked.look_any-r.ensures in (
      record { sized = looked.look_any-r.auto.rest ∙ inv.0.sized; there = start.requires.there; few = start.requires.few; bound = omega (arith, t.1) },
      byte_turn look_entry a.message a.count a.bits.now at-loop.loop-j.j _ (looking at-loop.loop-j.r at-loop.loop-j.rest) _ _ in-loop.loop-j-test.true start.requires.few refl t.0 inv.1,
    )

pub shape_of-rest : goal.shape_of-rest
shape_of-rest c = c.loop-j.invariant.0.sized ∙ sym c.requires.sized

pub returns : goal.returns
returns c =
    let at-loop = c in
    let a = at-loop.args in
    bytes_end look_entry a.message a.count a.bits.now at-loop.loop-j.j (looking at-loop.loop-j.r at-loop.loop-j.rest) _ c.loop-j-test.false at-loop.loop-j.invariant.1
