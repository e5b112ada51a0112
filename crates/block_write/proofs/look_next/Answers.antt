-- `block_write::look_next` meets its contract: `byte_of` tells the byte, one without a set bit leaves the state, and for any other `look_bits` goes over
-- its bits. Assumes nothing.
use mathlib.Core.Path.{◌∙◌}
use Rattle.block.specs.Loops.{byte_clear, byte_given}
use Rattle.block.specs.Walk.{look_entry}
use Rattle.block_write.specs.State.{looking}
use native.Mathlib.Omega.{arith}
use Rattle.block_write.proofs.look_next.Goals as goal

pub returns-then-value-eq0 : goal.returns-then-value-eq0
returns-then-value-eq0 c =
    let told = c in
    let start = told in
    let a = start.args in
    let st = looking a.s a.rest.now in (
      byte_given look_entry a.message a.count a.bits.now a.byte _ st st start.requires.0 start.requires.3.few told.byte_of-value.ensures
          (byte_clear (look_entry a.byte) a.message a.byte _ st c.if-value-eq0.true),
      record { sized = start.requires.3.sized; there = start.requires.3.there; few = start.requires.3.few; bound = omega arith },
    )

pub returns : goal.returns
returns c =
    let looked = c in
    let told = looked in
    let start = told in
    let a = start.args in
    let t = looked.look_bits.ensures in (
      byte_given look_entry a.message a.count a.bits.now a.byte _ (looking a.s a.rest.now) _ start.requires.0 start.requires.3.few told.byte_of-value.ensures t.0,
      record { sized = looked.look_bits.auto.rest ∙ start.requires.3.sized; there = start.requires.3.there; few = start.requires.3.few; bound = omega (arith, t.1) },
    )
