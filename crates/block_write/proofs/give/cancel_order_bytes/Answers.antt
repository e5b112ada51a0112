-- `block_write::give::cancel_order_bytes` meets its contract: what is left to walk after a byte ends as what was left before it, and places that are not listed
-- give nothing. Assumes nothing.
use Prim.Native.Nat.{◌-◌}
use mathlib.Core.Path.{refl, ◌∙◌}
use Rattle.dictionary.specs.Dictionary.{entry_of}
use Rattle.block.specs.Places.{entry_at}
use Rattle.block.specs.Loops.{unlisted}
use Rattle.block_write.proofs.Given.{ended}
use Rattle.block.specs.Sizes.{all_places}
use Rattle.block_write.proofs.give.cancel_order_bytes.Goals as goal

pub returns : goal.returns
unfolding unlisted entry_at entry_of
returns c =
    let first = c in
    let a = first.args in
    ended 0x39 a.count a.bits.now a.layout.now (all_places - 8) 8 refl _
    ∙ first.give_next.ensures.0
