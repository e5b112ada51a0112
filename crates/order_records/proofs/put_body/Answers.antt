-- `order_records::put_body` meets its contract. Assumes nothing.
use Rattle.numbers.proofs.Tail.{puts_then}
use mathlib.Core.List.{◌∷◌, ◌++◌}
use lib.ListN.{length-append}
use native.Mathlib.Omega.{arith}
use Rattle.block.specs.Sizes.{fixed_size}
use Rattle.order_records.proofs.put_body.Goals as goal

pub returns : goal.returns
returns c =
    let start = c in
    let a = start.args in
    let n = length-append a.bits.now a.slots.now in
    puts_then a.tail.now _ a.fixed.now (a.count ∷ (a.bits.now ++ a.slots.now)) fixed_size start.requires.0 (omega (arith, n, start.requires.1, start.requires.2, start.requires.3)) c.copy.ensures c.put_block.ensures
