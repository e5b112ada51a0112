-- What storing all fields in a zero layout makes, in the words of the slots. Assumes nothing.
use Rattle.std.specs.Prelude.{◌≡◌, refl, List, [], ◌++◌, ℕ, ◌-◌, length}
use Rattle.std.proofs.Common.{sym, ap, ◌∙◌, arith}
use Rattle.block.specs.Slots.{zeros, takes, width, sum, spread}
use Rattle.block.specs.Places.{selected_at, entry_at, slots_of}
use Rattle.block.specs.Walk.{Storing}
use Rattle.block.proofs.Dictionaries.{before-none, dictionary_placed, widths_fit}
use Rattle.block.proofs.Stores.{stored}
use Rattle.block_store.specs.State.{storing, store_walk}
use Rattle.block.specs.Sizes.{all_places, layout_size}

-- the state tells the place and the layout, so that what storing all answers and leaves is one
pub stored_one : {i j : ℕ} {v w : List ℕ} → storing i v ≡ storing j w → (i ≡ j) × (v ≡ w)
stored_one e = (ap (λ (st : Storing). st.at) e, ap (λ (st : Storing). st.layout) e)

pub stored_all : (message count : ℕ) (bits m : List ℕ) {at : ℕ} {layout : List ℕ} → storing at layout ≡ store_walk message count bits m all_places 0 (storing 0 (zeros layout_size))
    → sum takes (slots_of message count bits) ≡ length m → layout ≡ spread (slots_of message count bits) m ++ zeros (layout_size - sum width (slots_of message count bits))
stored_all message count bits m e h =
    ap (λ (st : Storing). st.layout) e
    ∙ (stored (entry_at message) layout_size (dictionary_placed message) m (selected_at count bits) all_places 0 (storing 0 (zeros layout_size)) (omega arith)).layout_is [] layout_size (omega arith)
    (sym (before-none (entry_at message))) refl (widths_fit message count bits)
