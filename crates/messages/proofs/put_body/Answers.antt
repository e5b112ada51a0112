-- `messages::put_body` meets its contract: the body, and zeros in the tail after it. Assumes nothing.
use Rattle.numbers.proofs.Tail.{puts_then}
use Rattle.block.specs.Slots.{zeros}
use Rattle.block.specs.SlotLaws.{length-zeros}
use Prim.Native.Nat.{◌-◌}
use lib.ListN.{length}
use native.Mathlib.Omega.{arith}
use mathlib.Core.Path.{refl}
use Rattle.messages.proofs.put_body.Goals as goal

pub returns : goal.returns
returns c =
    let copied = c in
    let start = copied in
    let a = start.args in
    let n = length a.b.now in
    puts_then a.tail.now _ a.b.now (zeros (433 - n)) n refl (omega (arith, length-zeros (433 - n), start.requires.0, start.requires.1)) copied.copy.ensures c.clear.ensures
