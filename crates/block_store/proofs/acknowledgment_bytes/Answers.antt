-- `block_store::acknowledgment_bytes` meets its contract: what is left to walk after a byte ends as what was left before it.
-- Byte 4 and those after 5 have no listed bit. Assumes nothing.
use Prim.Native.Nat.{◌-◌}
use mathlib.Core.Path.{refl, ◌∙◌}
use native.Mathlib.Omega.{arith}
use Rattle.dictionary.specs.Dictionary.{entry_of}
use Rattle.block.specs.Places.{entry_at}
use Rattle.block.specs.Loops.{unlisted}
use Rattle.block_store.proofs.Unlisted.{listed-after, none-listed}
use Rattle.block_store.proofs.Passed.{fits_after}
use Rattle.block.specs.Sizes.{all_places}
use Rattle.block_store.proofs.acknowledgment_bytes.Goals as goal

pub store_next-requires : goal.store_next-requires
store_next-requires c = let put = c.store_next-c in omega (arith, fits_after 0x25 _ _ 8 (all_places - 32) 24 put.result put.ensures.1)

pub returns : goal.returns
unfolding unlisted entry_at entry_of
returns c =
    let put4 = c in
    let put3 = put4 in
    let put2 = put3 in
    let put1 = put2 in
    none-listed 0x25 _ _ _ (all_places - 40) 40 _ refl
    ∙ put4.store_next.ensures.0
    ∙ listed-after 0x25 _ _ _ 8 (all_places - 32) 24 _ refl
    ∙ put3.store_next-c.ensures.0
    ∙ put2.store_next-b.ensures.0
    ∙ put1.store_next-a.ensures.0
