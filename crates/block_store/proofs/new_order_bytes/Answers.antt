-- `block_store::new_order_bytes` meets its contract: what is left to walk after a byte ends as what was left before it.
-- Bytes 4, 5, 7, 8, 9 and those after 10 have no listed bit. Assumes nothing.
use Prim.Native.Nat.{◌-◌}
use mathlib.Core.Path.{refl, ◌∙◌}
use native.Mathlib.Omega.{arith}
use Rattle.dictionary.specs.Dictionary.{entry_of}
use Rattle.block.specs.Places.{entry_at}
use Rattle.block.specs.Loops.{unlisted}
use Rattle.block_store.proofs.Unlisted.{listed-after, none-listed}
use Rattle.block_store.proofs.Passed.{fits_after}
use Rattle.block.specs.Sizes.{all_places}
use Rattle.block_store.proofs.new_order_bytes.Goals as goal

pub store_next-d-requires : goal.store_next-d-requires
store_next-d-requires c = let put = c.store_next-c in omega (arith, fits_after 0x38 _ _ 16 (all_places - 40) 24 put.result put.ensures.1)

pub store_next-requires : goal.store_next-requires
store_next-requires c =
    omega (
      arith,
      c.requires,
      c.store_next-a.auto.layout,
      fits_after 0x38 _ _ 24 (all_places - 72) 48 c.store_next-d.result c.store_next-d.ensures.1,
    )

pub returns : goal.returns
unfolding unlisted entry_at entry_of
returns c =
    let put5 = c in
    let put4 = put5 in
    let put3 = put4 in
    let put2 = put3 in
    let put1 = put2 in
    none-listed 0x38 _ _ _ (all_places - 80) 80 _ refl
    ∙ put5.store_next.ensures.0
    ∙ listed-after 0x38 _ _ _ 24 (all_places - 72) 48 _ refl
    ∙ put4.store_next-d.ensures.0
    ∙ listed-after 0x38 _ _ _ 16 (all_places - 40) 24 _ refl
    ∙ put3.store_next-c.ensures.0
    ∙ put2.store_next-b.ensures.0
    ∙ put1.store_next-a.ensures.0
