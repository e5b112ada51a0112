-- `block_write::give::give_all` meets its contract: no byte gives nothing, and each message's arm has it for that message. Assumes nothing.
use mathlib.Core.Path.{refl}
use native.Mathlib.Omega.{arith}
use Rattle.block.specs.Walk.{any_byte, give_entry}
use Rattle.block.specs.Loops.{bytes_end}
use Rattle.block_write.specs.State.{giving}
use Rattle.block_write.proofs.Given.{left_of}
use Rattle.block_write.proofs.give.give_all.Goals as goal

pub returns-then-count-eq0 : goal.returns-then-count-eq0
returns-then-count-eq0 c =
    let a = c.args in
    bytes_end (any_byte (give_entry a.layout.now)) a.message a.count a.bits.now 0 (giving a.start a.out.now) _ (omega arith) refl

pub new_order_bytes-requires : goal.new_order_bytes-requires
new_order_bytes-requires c =
    let a = c.args in
    omega (arith, left_of a.count a.bits.now c.in-56.is)

pub cancel_order_bytes-requires : goal.cancel_order_bytes-requires
cancel_order_bytes-requires c =
    let a = c.args in
    omega (arith, left_of a.count a.bits.now c.in-57.is)

pub acknowledgment_bytes-requires : goal.acknowledgment_bytes-requires
acknowledgment_bytes-requires c =
    let a = c.args in
    omega (arith, left_of a.count a.bits.now c.in-37.is)

pub execution_bytes-requires : goal.execution_bytes-requires
execution_bytes-requires c =
    let a = c.args in
    omega (arith, left_of a.count a.bits.now c.in-44.is)

pub returns-in-56 : goal.returns-in-56
returns-in-56 c = let given = c in rw given.in-56.is given.new_order_bytes.ensures

pub returns-in-57 : goal.returns-in-57
returns-in-57 c = let given = c in rw given.in-57.is given.cancel_order_bytes.ensures

pub returns-in-37 : goal.returns-in-37
returns-in-37 c = let given = c in rw given.in-37.is given.acknowledgment_bytes.ensures

pub returns-in-44 : goal.returns-in-44
returns-in-44 c = let given = c in rw given.in-44.is given.execution_bytes.ensures
