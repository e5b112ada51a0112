-- Places that a message's dictionary does not list store nothing: the walk passes over them, and ends where only such are left. Assumes
-- nothing.
use mathlib.Core.Path.{◌≡◌, refl, sym, ap, ◌∙◌}
use mathlib.Core.Bool.{true}
use mathlib.Core.List.{List}
use Prim.Native.Nat.{ℕ, ◌+◌}
use Rattle.block.specs.Places.{selected_at, entry_at}
use Rattle.block.specs.Walk.{any_byte, Storing, store_entry}
use Rattle.block.specs.WalkLaws.{walk_add}
use Rattle.block.specs.Loops.{unlisted, places-unlisted}
use Rattle.block_store.specs.State.{store_walk}

module _ (message count : ℕ) (bits m : List ℕ) where
  -- n places that are not listed, and no other
  pub none-listed : (n k : ℕ) (st : Storing) → unlisted message n k ≡ true → st ≡ store_walk message count bits m n k st
  unfolding store_entry
  none-listed n k st u = sym (places-unlisted (any_byte (store_entry m)) message count bits n k st (λ b s. refl) u)

  -- and i places after them
  pub listed-after : (n i k : ℕ) (st : Storing) → unlisted message n k ≡ true → store_walk message count bits m i (k + n) st ≡ store_walk message count bits m (n + i) k st
  listed-after n i k st u =
      ap (store_walk message count bits m i (k + n)) (none-listed n k st u) ∙ sym (walk_add (selected_at count bits) (λ (j : ℕ). store_entry m (entry_at message j)) n i k st)
