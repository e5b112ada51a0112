-- Places that a message does not list are passed over in giving, and how many bytes are left to give, on plain values. Assumes nothing.
use mathlib.Core.Path.{◌≡◌, refl, sym, ap, ◌∙◌}
use mathlib.Core.Bool.{Bool, true, false}
use mathlib.Core.List.{List}
use Prim.Native.Nat.{ℕ, zero, suc, ◌+◌, ◌-◌, ◌≤◌}
use native.Mathlib.Nat.{add-zero, zero-add}
use native.Mathlib.Omega.{arith}
use Rattle.dictionary.specs.declared.Entry.{Entry}
use Rattle.dictionary.specs.declared.Entry.TheVariants.{Refused}
use Rattle.block.specs.Slots.{width_of}
use Rattle.block.specs.Places.{selected_at, entry_at, slots_from}
use Rattle.block.specs.Walk.{any_byte, Giving, give_entry}
use Rattle.block.specs.WalkLaws.{walk_add}
use Rattle.block.specs.Loops.{unlisted, places-unlisted}
use Rattle.block.specs.Fits.{bit_takes, bits_take, left}
use Rattle.block.specs.Sizes.{all_places}
use Rattle.block_write.specs.State.{give_walk}

-- a bit that is not listed gives nothing
unlisted-kept : (v : List ℕ) (st : Giving) → give_entry v Refused st ≡ st
unfolding give_entry
unlisted-kept v st = refl

module _ (message count : ℕ) (bits v : List ℕ) (n k : ℕ) (u : unlisted message n k ≡ true) where
  -- the last n places
  pub ended : (st : Giving) → st ≡ give_walk message count bits v n k st
  ended st = sym (places-unlisted (any_byte (give_entry v)) message count bits n k st (λ b. unlisted-kept v) u)

  -- n places before m others
  pub passed : (m : ℕ) (st : Giving) → give_walk message count bits v m (k + n) st ≡ give_walk message count bits v (n + m) k st
  passed m st =
      ap (give_walk message count bits v m (k + n)) (ended st)
      ∙ sym (walk_add (selected_at count bits) (λ (i : ℕ). give_entry v (entry_at message i)) n m k st)

-- ---- the bytes that are left to give

module _ (b : Bool) (e : Entry) where
  -- a set bit's, whose entry is known
  pub set-takes : {e' : Entry} → b ≡ true → e' ≡ e → bit_takes b e ≡ width_of e'
  set-takes z q = rw z (ap width_of (sym q))

  -- those of one that is not set
  pub unset_takes : b ≡ false → bit_takes b e ≡ 0
  unset_takes z = rw z

-- no bit is left
pub take_end : (message byte i x : ℕ) → 8 ≤ i → bits_take message byte (8 - i) i x ≡ 0
unfolding bits_take
take_end message byte i x h = let n : 8 - i ≡ 0 = omega arith in ap (λ (m : ℕ). bits_take message byte m i x) n

-- those of all places, for the message that an arm knows
pub left_of : (count : ℕ) (bits : List ℕ) {message known : ℕ} → message ≡ known → left message count bits all_places 0 ≡ left known count bits all_places 0
left_of count bits e = ap (λ (m : ℕ). left m count bits all_places 0) e

module _ (message count : ℕ) (bits : List ℕ) where
  -- after n places there is no more left than before them
  pub left-later : (n m k : ℕ) → left message count bits m (k + n) ≤ left message count bits (n + m) k
  unfolding slots_from
  left-later zero m k = rw (zero-add m, add-zero k) (omega arith)
  left-later (suc n) m k =
      let e : k + suc n ≡ suc k + n = omega arith in
      let s : suc n + m ≡ suc (n + m) = omega arith in
      rw (e, s) (omega (arith, left-later n m (suc k)))
