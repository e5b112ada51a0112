-- `order_writer::put_fixed` meets its contract: the number in each arm is what the message's fixed part has. Assumes nothing.
use native.Mathlib.Omega.{arith}
use Rattle.orders.proofs.OrderLaws.{in_new_order, in_cancel_order, in_acknowledgment, in_execution, in_modify_order, in_purge_orders, in_others}
use Rattle.order_writer.proofs.put_fixed.Goals as goal

pub put_part-requires : goal.put_part-requires
put_part-requires c =
    let start = c in
    (omega (arith, in_new_order _ c.in-56.is), start.requires.0, start.requires.1)

pub put_part-requires-in-57 : goal.put_part-requires-in-57
put_part-requires-in-57 c =
    let start = c in
    (omega (arith, in_cancel_order _ c.in-57.is), start.requires.0, start.requires.1)

pub put_part-requires-in-37 : goal.put_part-requires-in-37
put_part-requires-in-37 c =
    let start = c in
    (omega (arith, in_acknowledgment _ c.in-37.is), start.requires.0, start.requires.1)

pub put_part-requires-in-44 : goal.put_part-requires-in-44
put_part-requires-in-44 c =
    let start = c in
    (omega (arith, in_execution _ c.in-44.is), start.requires.0, start.requires.1)

pub put_part-requires-in-58 : goal.put_part-requires-in-58
put_part-requires-in-58 c =
    let start = c in
    (omega (arith, in_modify_order _ c.in-58.is), start.requires.0, start.requires.1)

pub put_part-requires-in-71 : goal.put_part-requires-in-71
put_part-requires-in-71 c =
    let start = c in
    (omega (arith, in_purge_orders _ c.in-71.is), start.requires.0, start.requires.1)

pub put_part-requires-in_default : goal.put_part-requires-in_default
put_part-requires-in_default c =
    let start = c in
    let other = c.in_default.in_default-own.rest in
    (omega (arith, in_others _ other.0.0.0.0.0.1 other.0.0.0.0.1 other.0.0.0.1 other.0.0.1 other.0.1 other.1), start.requires.0, start.requires.1)
