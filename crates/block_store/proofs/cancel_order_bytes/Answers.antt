-- `block_store::cancel_order_bytes` meets its contract: the bytes after the first have no listed bit. Assumes nothing.
use Prim.Native.Nat.{◌-◌}
use mathlib.Core.Path.{refl, ◌∙◌}
use Rattle.dictionary.specs.Dictionary.{entry_of}
use Rattle.block.specs.Places.{entry_at}
use Rattle.block.specs.Loops.{unlisted}
use Rattle.block_store.proofs.Unlisted.{none-listed}
use Rattle.block.specs.Sizes.{all_places}
use Rattle.block_store.proofs.cancel_order_bytes.Goals as goal

pub returns : goal.returns
unfolding unlisted entry_at entry_of
returns c = none-listed 0x39 _ _ _ (all_places - 8) 8 _ refl ∙ c.store_next.ensures.0
