use Rattle.numbers.proofs.Tail.{puts_then}
use Rattle.block.specs.Slots.{zeros}
use Rattle.block.specs.SlotLaws.{length-zeros}
use mathlib.Core.Path.{◌≡◌}
use Prim.Native.Nat.{◌-◌}
use lib.ListN.{length, take, drop, length-drop}
use lib.Seq.{length-take-le}
use native.Mathlib.Omega.{arith}
use Rattle.block.specs.Sizes.{fixed_end}
use Rattle.order_reader.proofs.put_up_to.Goals as goal

pub returns : goal.returns
returns c =
    let start = c in
    let a = start.args in
    let d : length (drop 10 a.m.now) ≡ length a.m.now - 10 = length-drop 10 a.m.now in
    let n : length (take (a.at - 10) (drop 10 a.m.now)) ≡ a.at - 10 = length-take-le (a.at - 10) (drop 10 a.m.now) (omega (arith, d, start.requires.0)) in
    puts_then a.tail.now _ (take (a.at - 10) (drop 10 a.m.now)) (zeros (fixed_end - a.at)) (a.at - 10) n (omega (arith, length-zeros (fixed_end - a.at), start.requires.1, start.requires.2, start.requires.3)) c.move_field.ensures c.clear.ensures
