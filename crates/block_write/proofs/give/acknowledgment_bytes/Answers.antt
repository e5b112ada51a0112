-- `block_write::give::acknowledgment_bytes` meets its contract: what is left to walk after a byte ends as what was left before it, and places that are not listed
-- give nothing. Assumes nothing.
use Prim.Native.Nat.{◌-◌}
use mathlib.Core.Path.{refl, ◌∙◌}
use native.Mathlib.Omega.{arith}
use Rattle.dictionary.specs.Dictionary.{entry_of}
use Rattle.block.specs.Places.{entry_at}
use Rattle.block.specs.Loops.{unlisted}
use Rattle.block_write.proofs.Given.{ended, passed, left-later}
use Rattle.block.specs.Sizes.{all_places}
use Rattle.block_write.proofs.give.acknowledgment_bytes.Goals as goal

pub give_next-requires : goal.give_next-requires
give_next-requires c =
    let third = c in
    let second = third in
    let first = second in
    let a = first.args in
    omega (arith, left-later 0x25 a.count a.bits.now 8 (all_places - 32) 24)

pub returns : goal.returns
unfolding unlisted entry_at entry_of
returns c =
    let fourth = c in
    let third = fourth in
    let second = third in
    let first = second in
    let a = first.args in
    ended 0x25 a.count a.bits.now a.layout.now (all_places - 40) 40 refl _
    ∙ fourth.give_next.ensures.0
    ∙ passed 0x25 a.count a.bits.now a.layout.now 8 24 refl (all_places - 32) _
    ∙ third.give_next-c.ensures.0
    ∙ second.give_next-b.ensures.0
    ∙ first.give_next-a.ensures.0
