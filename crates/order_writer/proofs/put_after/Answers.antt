-- `order_writer::put_after` meets its contract. Assumes nothing.
use mathlib.Core.Path.{ap, ◌∙◌}
use mathlib.Core.List.{◌++◌}
use Prim.Native.Nat.{ℕ}
use native.Mathlib.Omega.{arith}
use lib.ListN.{take}
use lib.Seq.{length-take-le}
use Rattle.numbers.specs.Numbers.{patched}
use Rattle.block.specs.Slots.{gathered}
use Rattle.block.specs.Places.{slots_of}
use Rattle.order_writer.specs.Stages.{after_bytes}
use Rattle.order_writer.proofs.Puts.{fields-put}
use Rattle.order_writer.proofs.put_after.Goals as goal

pub returns : goal.returns
unfolding after_bytes
returns c =
    let given = c in
    let copied = given in
    let sized = copied in
    let start = sized in
    let a = start.args in
    let p = start.requires in
    let k = sized.middle_size-k.result in
    let e = sized.middle_size-k.ensures.0 in
    let held = a.held.now in
    fields-put a.message a.count a.bits.now a.slots.now (take k held) a.tail.now _ _ k _ p.1 (length-take-le k held (omega (arith, e, p.3))) (omega (arith, e, p.4)) copied.copy_front.ensures given.give_all.ensures
    ∙ ap (λ (n : ℕ). patched a.tail.now 0 (take n held ++ gathered (slots_of a.message a.count a.bits.now) a.slots.now)) e
