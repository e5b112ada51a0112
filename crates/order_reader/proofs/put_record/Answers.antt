-- `order_reader::put_record` meets its contract: the front of the record, and in the tail after it the layout. Assumes nothing.
use Rattle.numbers.proofs.Tail.{puts_then}
use Rattle.numbers.specs.Numbers.{patched}
use Rattle.orders.specs.Middle.{middle_size}
use Rattle.orders.specs.Orders.{layout_of}
use Rattle.order_reader.specs.Stages.{front_bytes}
use Rattle.order_reader.proofs.Fronts.{front_long, front_and_layout, layout_long}
use mathlib.Core.Path.{ap, ◌∙◌}
use lib.ListN.{drop, length-drop}
use native.Mathlib.Omega.{arith}
use Rattle.block.specs.Sizes.{slots_place}
use Rattle.order_reader.proofs.put_record.Goals as goal

pub returns : goal.returns
returns c =
    let put = c in
    let fronted = put in
    let start = fronted in
    let a = start.args in
    let mid = middle_size a.message a.count a.bits.now a.rest.now in
    let optional = drop mid a.rest.now in
    let d = length-drop mid a.rest.now in
    let n = front_long a.m.now a.message a.count a.bits.now a.rest.now start.requires.0 (omega (arith, start.requires.3)) start.requires.4 (omega (arith, start.requires.1, start.requires.2)) in
    let l = layout_long a.message a.count a.bits.now optional (omega (arith, d, start.requires.3)) in
    puts_then a.buffer.now _ (front_bytes a.m.now a.message a.count a.bits.now a.rest.now) (layout_of a.message a.count a.bits.now optional) slots_place n (omega (arith, l, start.requires.5)) fronted.put_front.ensures put.put_slots.ensures
    ∙ ap (patched a.buffer.now 0) (front_and_layout a.m.now a.message a.count a.bits.now a.rest.now)
