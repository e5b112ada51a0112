-- `order_writer::put_fields` meets its contract. Assumes nothing.
use native.Mathlib.Omega.{arith}
use lib.ListN.{take}
use lib.Seq.{length-take-le}
use Rattle.numbers.proofs.Tail.{puts_then}
use Rattle.order_writer.specs.Stages.{after_bytes, field_bytes}
use Rattle.order_writer.proofs.Puts.{after-length}
use Rattle.order_writer.proofs.put_fields.Goals as goal

pub returns : goal.returns
unfolding field_bytes
returns c =
    let put = c in
    let copied = put in
    let start = copied in
    let a = start.args in
    let p = start.requires in
    let bits = a.bits.now in
    let after = after_bytes a.message a.count bits a.held.now a.slots.now in
    let n = after-length a.message a.count bits a.held.now a.slots.now p.1 p.3 in
    puts_then a.tail.now _ (take a.count bits) after a.count (length-take-le a.count bits (omega (arith, p.0, p.2))) (omega (arith, n, p.4)) copied.copy_front.ensures put.put_after.ensures
