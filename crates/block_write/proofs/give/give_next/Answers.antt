-- `block_write::give::give_next` meets its contract: a byte that is not there or has no set bit leaves the state. What is left to give is the byte's
-- and then the others'. Assumes nothing.
use native.Mathlib.Omega.{arith}
use Rattle.block.specs.Loops.{byte_clear, byte_given}
use Rattle.block.specs.Fits.{left_byte}
use Rattle.block.specs.Walk.{any_byte, give_entry}
use Rattle.block_write.specs.State.{giving}
use Rattle.block_write.proofs.give.give_next.Goals as goal

pub returns-then-value-eq0 : goal.returns-then-value-eq0
returns-then-value-eq0 c =
    let told = c in
    let start = told in
    let a = start.args in
    let st = giving a.at a.out.now in (
      byte_given (any_byte (give_entry a.layout.now)) a.message a.count a.bits.now a.byte _ st st start.requires.3 start.requires.2 told.byte_of-value.ensures
          (byte_clear (give_entry a.layout.now) a.message a.byte _ st c.if-value-eq0.true),
      omega (arith, start.requires.6, left_byte a.message a.count a.bits.now a.byte _ start.requires.3 start.requires.4 told.byte_of-value.ensures),
    )

pub give_bits-requires : goal.give_bits-requires
give_bits-requires c =
    let told = c in
    let start = told in
    let a = start.args in
    (start.requires.0, start.requires.4, start.requires.5, omega (arith, start.requires.6, left_byte a.message a.count a.bits.now a.byte _ start.requires.3 start.requires.4 told.byte_of-value.ensures))

pub returns : goal.returns
returns c =
    let given = c in
    let told = given in
    let start = told in
    let a = start.args in (
      byte_given (any_byte (give_entry a.layout.now)) a.message a.count a.bits.now a.byte _ (giving a.at a.out.now) _ start.requires.3 start.requires.2 told.byte_of-value.ensures
          given.give_bits.ensures.0,
      omega (arith, start.requires.6, given.give_bits.ensures.1, left_byte a.message a.count a.bits.now a.byte _ start.requires.3 start.requires.4 told.byte_of-value.ensures),
    )
