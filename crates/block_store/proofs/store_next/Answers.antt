-- `block_store::store_next` meets its contract: a byte that is not there or without a set bit leaves the state, and what is left to pass are the byte's
-- fields and those of the bytes after it. Assumes nothing.
use native.Mathlib.Omega.{arith}
use Rattle.block.specs.Walk.{any_byte, store_entry}
use Rattle.block.specs.Loops.{byte_clear, byte_given}
use Rattle.block.specs.Fits.{left_byte}
use Rattle.block_store.specs.State.{storing}
use Rattle.block_store.proofs.store_next.Goals as goal

pub returns-then-value-eq0 : goal.returns-then-value-eq0
returns-then-value-eq0 c =
    let got = c in
    let start = got in
    let a = start.args in
    let st = storing a.at a.layout.now in (
      byte_given (any_byte (store_entry a.msg.now)) a.message a.count a.bits.now a.byte _ st st start.requires.3 start.requires.2 got.byte_of-value.ensures
          (byte_clear (store_entry a.msg.now) a.message a.byte _ st c.if-value-eq0.true),
      omega (arith, left_byte a.message a.count a.bits.now a.byte _ start.requires.3 start.requires.4 got.byte_of-value.ensures),
    )

pub store_bits-requires : goal.store_bits-requires
store_bits-requires c =
    let got = c in
    let start = got in
    let a = start.args in
    omega (arith, left_byte a.message a.count a.bits.now a.byte _ start.requires.3 start.requires.4 got.byte_of-value.ensures)

pub returns : goal.returns
returns c =
    let put = c in
    let got = put in
    let start = got in
    let a = start.args in (
      byte_given (any_byte (store_entry a.msg.now)) a.message a.count a.bits.now a.byte _ (storing a.at a.layout.now) _ start.requires.3 start.requires.2 got.byte_of-value.ensures
          put.store_bits.ensures.0,
      omega (arith, put.store_bits.ensures.1, left_byte a.message a.count a.bits.now a.byte _ start.requires.3 start.requires.4 got.byte_of-value.ensures),
    )
