-- `block_write::give::execution_bytes` meets its contract: what is left to walk after a byte ends as what was left before it, and places that are not listed
-- give nothing. Assumes nothing.
use Prim.Native.Nat.{◌-◌}
use mathlib.Core.Path.{refl, ◌∙◌}
use Rattle.dictionary.specs.Dictionary.{entry_of}
use Rattle.block.specs.Places.{entry_at}
use Rattle.block.specs.Loops.{unlisted}
use Rattle.block_write.proofs.Given.{ended}
use Rattle.block.specs.Sizes.{all_places}
use Rattle.block_write.proofs.give.execution_bytes.Goals as goal

pub returns : goal.returns
unfolding unlisted entry_at entry_of
returns c =
    let third = c in
    let second = third in
    let first = second in
    let a = first.args in
    ended 0x2C a.count a.bits.now a.layout.now (all_places - 24) 24 refl _
    ∙ third.give_next.ensures.0
    ∙ second.give_next-b.ensures.0
    ∙ first.give_next-a.ensures.0
