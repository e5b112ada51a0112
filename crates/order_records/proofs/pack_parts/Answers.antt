-- `order_records::pack_parts` meets its contract: the head, and the body in the tail after it. Assumes nothing.
use Rattle.order_records.specs.Records.{record_bytes}
use Rattle.numbers.specs.Numbers.{bytes_of}
use Rattle.numbers.proofs.Tail.{puts_then}
use mathlib.Core.Path.{◌≡◌, refl}
use mathlib.Core.List.{◌∷◌, ◌++◌}
use Prim.Native.Nat.{◌-◌}
use lib.ListN.{length, length-append}
use native.Mathlib.Omega.{arith}
use Rattle.block.specs.Sizes.{record_size}
use Rattle.order_records.proofs.pack_parts.Goals as goal

pub returns : goal.returns
unfolding record_bytes
returns c =
    let headed = c in
    let start = headed in
    let a = start.args in
    let body = a.fixed.now ++ (a.count ∷ (a.bits.now ++ a.slots.now)) in
    let n : length body ≡ record_size - 6 = omega (arith, length-append a.fixed.now (a.count ∷ (a.bits.now ++ a.slots.now)), length-append a.bits.now a.slots.now, start.requires.0, start.requires.1, start.requires.2) in
    puts_then a.out.now _ (a.message ∷ a.unit ∷ bytes_of 4 a.number) body 6 refl (omega (arith, n, start.requires.3)) headed.put_head.ensures c.put_body.ensures
