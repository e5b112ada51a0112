-- `block_store::execution_bytes` meets its contract: what is left to walk after a byte ends as what was left before it.
-- The bytes after the third have no listed bit. Assumes nothing.
use Prim.Native.Nat.{◌-◌}
use mathlib.Core.Path.{refl, ◌∙◌}
use Rattle.dictionary.specs.Dictionary.{entry_of}
use Rattle.block.specs.Places.{entry_at}
use Rattle.block.specs.Loops.{unlisted}
use Rattle.block_store.proofs.Unlisted.{none-listed}
use Rattle.block.specs.Sizes.{all_places}
use Rattle.block_store.proofs.execution_bytes.Goals as goal

pub returns : goal.returns
unfolding unlisted entry_at entry_of
returns c =
    let put3 = c in
    let put2 = put3 in
    let put1 = put2 in
    none-listed 0x2C _ _ _ (all_places - 24) 24 _ refl
    ∙ put3.store_next.ensures.0
    ∙ put2.store_next-b.ensures.0
    ∙ put1.store_next-a.ensures.0
