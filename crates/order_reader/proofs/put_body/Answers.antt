-- `order_reader::put_body` meets its contract: the fixed part and the middle, and in the tail after them the count and the bitfields. Assumes nothing.
use Rattle.numbers.proofs.Tail.{puts_then}
use Rattle.order_reader.proofs.Fronts.{pad_long, kept_long}
use native.Mathlib.Omega.{arith}
use Rattle.block.specs.Sizes.{fixed_size}
use Rattle.order_reader.proofs.put_body.Goals as goal

pub returns : goal.returns
returns c =
    let put = c in
    let kept = put in
    let start = kept in
    let a = start.args in
    let n = pad_long a.bits.now start.requires.1 in
    puts_then a.tail.now _ _ _ fixed_size (kept_long a.m.now a.message a.count a.bits.now a.rest.now start.requires.0 start.requires.2 start.requires.3) (omega (arith, n, start.requires.4)) kept.put_kept.ensures put.put_block.ensures
