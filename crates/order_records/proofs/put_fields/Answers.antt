-- `order_records::put_fields` meets its contract: the bitfields, and the layout in the tail after them. Assumes nothing.
use Rattle.numbers.proofs.Tail.{puts_then}
use native.Mathlib.Omega.{arith}
use Rattle.block.specs.Sizes.{most_bitfields}
use Rattle.order_records.proofs.put_fields.Goals as goal

pub returns : goal.returns
returns c =
    let copied = c in
    let start = copied in
    let a = start.args in
    puts_then a.tail.now _ a.bits.now a.slots.now most_bitfields start.requires.0 (omega (arith, start.requires.1, start.requires.2)) copied.copy.ensures c.copy_layout.ensures
