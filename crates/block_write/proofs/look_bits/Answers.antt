-- `block_write::look_bits` meets its contract. The loop's invariant: the layout keeps its length, and the walk over the byte's other bits, from the state
-- reached, ends as the walk over all eight; what was found before them is asked at the end. Assumes nothing.
use mathlib.Core.Path.{refl, sym, ap, ◌∙◌}
use Prim.Native.Nat.{ℕ}
use native.Mathlib.Omega.{arith}
use Rattle.block.specs.Loops.{bit-turn, bits_end_lem}
use Rattle.block.specs.Walk.{Looking, look_here}
use Rattle.block.proofs.OneByte.{look_byte}
use Rattle.block_write.specs.State.{looking}
use Rattle.block_write.proofs.look_bits.Goals as goal

pub loop-bit-init : goal.loop-bit-init
loop-bit-init c = (omega arith, c.requires.0, omega arith, refl)

pub look_bit-r-requires : goal.look_bit-r-requires
look_bit-r-requires c = (c.loop-bit.invariant.1, omega arith)

pub loop-bit-preserved : goal.loop-bit-preserved
loop-bit-preserved c =
    let looked = c in
    let at-loop = looked in
    let a = at-loop.args in
    let inv = at-loop.loop-bit.invariant in
    let t = looked.look_bit-r.ensures in (
      omega arith,
      looked.look_bit-r.auto.rest ∙ inv.1,
      omega (arith, t.1),
      bit-turn (look_here a.byte) a.message a.byte at-loop.loop-bit.bit at-loop.loop-bit.x (looking at-loop.loop-bit.r at-loop.loop-bit.rest) _ _ (omega arith) t.0 inv.3,
    )

pub shape_of-rest : goal.shape_of-rest
shape_of-rest c = c.loop-bit.invariant.1 ∙ sym c.requires.0

pub returns : goal.returns
returns c =
    let at-loop = c in
    let start = at-loop in
    let a = start.args in
    let r = at-loop.loop-bit.r in
    let rest = at-loop.loop-bit.rest in
    let bits = bits_end_lem (look_here a.byte) a.message a.byte at-loop.loop-bit.bit at-loop.loop-bit.x (looking r rest) _ (omega arith) at-loop.loop-bit.invariant.3 in (
      ap {B = Looking} (λ (b : ℕ). record { total = r.total; wrong = r.wrong; bad = b; rest = rest }) c.first_of.ensures
          ∙ look_byte a.message a.byte start.requires.1 a.value (looking a.s a.rest.now) (looking r rest) bits,
      omega arith,
    )
