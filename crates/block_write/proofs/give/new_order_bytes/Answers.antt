-- `block_write::give::new_order_bytes` meets its contract: what is left to walk after a byte ends as what was left before it, and places that are not listed
-- give nothing. Assumes nothing.
use Prim.Native.Nat.{◌-◌}
use mathlib.Core.Path.{refl, ◌∙◌}
use native.Mathlib.Omega.{arith}
use Rattle.dictionary.specs.Dictionary.{entry_of}
use Rattle.block.specs.Places.{entry_at}
use Rattle.block.specs.Loops.{unlisted}
use Rattle.block_write.proofs.Given.{ended, passed, left-later}
use Rattle.block.specs.Sizes.{all_places}
use Rattle.block_write.proofs.give.new_order_bytes.Goals as goal

pub give_next-d-requires : goal.give_next-d-requires
give_next-d-requires c =
    let third = c in
    let second = third in
    let first = second in
    let a = first.args in
    omega (arith, left-later 0x38 a.count a.bits.now 16 (all_places - 40) 24)

pub give_next-requires : goal.give_next-requires
give_next-requires c =
    let fourth = c in
    let third = fourth in
    let second = third in
    let first = second in
    let a = first.args in
    omega (arith, left-later 0x38 a.count a.bits.now 24 (all_places - 72) 48)

pub returns : goal.returns
unfolding unlisted entry_at entry_of
returns c =
    let fifth = c in
    let fourth = fifth in
    let third = fourth in
    let second = third in
    let first = second in
    let a = first.args in
    ended 0x38 a.count a.bits.now a.layout.now (all_places - 80) 80 refl _
    ∙ fifth.give_next.ensures.0
    ∙ passed 0x38 a.count a.bits.now a.layout.now 24 48 refl (all_places - 72) _
    ∙ fourth.give_next-d.ensures.0
    ∙ passed 0x38 a.count a.bits.now a.layout.now 16 24 refl (all_places - 40) _
    ∙ third.give_next-c.ensures.0
    ∙ second.give_next-b.ensures.0
    ∙ first.give_next-a.ensures.0
