-- One field stored, on plain values: the reader that is handed the message's tail stores what the walk stores. Assumes nothing.
use mathlib.Core.Path.{◌≡◌, ap, ◌∙◌}
use mathlib.Core.Bool.{Bool, true, false}
use mathlib.Core.List.{List}
use Prim.Native.Nat.{ℕ, ◌+◌, ◌-◌, ◌≤◌}
use native.Mathlib.Omega.{arith}
use lib.ListN.{length, take, drop, length-drop}
use borrow.Author.Tests.{le-leb}
use Rattle.dictionary.specs.declared.Entry.{Entry}
use Rattle.numbers.specs.Numbers.{patched}
use Rattle.numbers.proofs.Tail.{tail_is}
use Rattle.block.specs.Slots.{width_of}
use Rattle.block.specs.Walk.{store_field}
use Rattle.block.specs.Fits.{bit_takes}
use Rattle.block_store.specs.State.{storing}

-- a set bit takes its entry's bytes
pub set-takes : (b : Bool) (e : Entry) {e' : Entry} → b ≡ true → e' ≡ e → bit_takes b e ≡ width_of e'
set-takes b e z q = rw (z, q)

-- and one that is not set takes none
pub unset_takes : (b : Bool) (e : Entry) → b ≡ false → bit_takes b e ≡ 0
unset_takes b e z = rw z

module _ (m : List ℕ) (w at : ℕ) (k : at + w ≤ length m) where
  -- the tail as it is lent
  lent : take (length m - at) (drop at m) ≡ drop at m
  lent = tail_is m at (omega arith)

  -- it has the field
  pub tail_has : w ≤ length (take (length m - at) (drop at m))
  tail_has = rw lent (omega (arith, length-drop at m))

  -- and its front, put into place p, is what the walk stores
  pub tail_stored : (p : ℕ) (l : List ℕ) {l' : List ℕ} → l' ≡ patched l p (take w (take (length m - at) (drop at m))) → storing (at + w) l' ≡ store_field m w p (storing at l)
  tail_stored p l q = ap (storing (at + w)) (q ∙ ap (λ (x : List ℕ). patched l p (take w x)) lent) ∙ rw (le-leb (at + w) (length m) k)
