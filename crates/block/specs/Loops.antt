-- The code's loops over bitfield bytes and over the bits of one byte are a walk over all places, whatever the walk's state.
-- Assumes nothing.
use Rattle.std.specs.Prelude.{◌≡◌, Bool, true, false, ◌&&◌, List, [], ◌∷◌, ltb, take, drop}
use Rattle.std.proofs.Math.Path.{refl, sym, ap, ap₂}
use Rattle.std.proofs.Common.{◌∙◌, add-zero, pow-suc, add-one, get_or-take, get_or-drop}
use Rattle.std.proofs.lemmas.Bool.{false≢true}
use Rattle.std.proofs.Math.Bool.{and-eq-true_iff}
use Prim.Native.Nat.{ℕ, zero, suc, ◌+◌, ◌*◌, ◌-◌, ◌/◌, ◌%◌, ◌^◌, ◌≤◌, ◌<◌}
use Rattle.std.proofs.Math.Nat.{zero-div, div-div-eq-div-mul}
use native.Mathlib.Omega.{arith}
use Rattle.std.proofs.Math.Dec.{eqb}
use Rattle.std.proofs.Math.ListN.{get_or}
use borrow.Author.Tests.{lt-ltb, le-ltb, ltb-true, ltb-false, eqb-true}
use Rattle.dictionary.specs.declared.Entry.{Entry}
use Rattle.dictionary.specs.declared.Entry.TheVariants.{Refused, Field}
use Rattle.dictionary.specs.Dictionary.{entry_of}
use Rattle.kinds.specs.Kinds.{all_nul}
use Rattle.block.specs.Places.{selected_at, byte_at, entry_at}
use Rattle.block.specs.Walk.{pick, walk, bits_from, in_byte}
use Rattle.block.specs.WalkLaws.{walk_add, walk_skip}
use Rattle.block.specs.Sizes.{all_places, most_bitfields}

-- ---- the bits of one byte: x / 2 ^ i is what is left after i halvings

-- one halving more
pub halved : (x i : ℕ) → x / 2 ^ i / 2 ≡ x / 2 ^ (i + 1)
halved x i = div-div-eq-div-mul x (2 ^ i) 2 ∙ ap (λ (n : ℕ). x / n) (sym (pow-suc 2 i)) ∙ rw add-one refl

module _ {S : Type 0} (change : Entry → S → S) (message byte : ℕ) where
  -- a turn of the loop over the bits of a byte
  pub bit-turn : (i x : ℕ) (st st' last : S) → i < 8 → st' ≡ pick (eqb (x % 2) 1) (change (entry_of message byte i) st) st
      → bits_from change message byte (8 - i) i x st ≡ last → bits_from change message byte (8 - (i + 1)) (i + 1) (x / 2) st' ≡ last
  unfolding bits_from
  bit-turn i x st st' last h s w =
      let n : 8 - i ≡ suc (8 - (i + 1)) = omega arith in
      ap₂ (λ (k : ℕ) (y : S). bits_from change message byte (8 - (i + 1)) k (x / 2) y) (add-one i) s
      ∙ sym (ap (λ (m : ℕ). bits_from change message byte m i x st) n)
      ∙ w

  -- its end
  pub bits_end_lem : (i x : ℕ) (st last : S) → 8 ≤ i → bits_from change message byte (8 - i) i x st ≡ last → st ≡ last
  unfolding bits_from
  bits_end_lem i x st last h w =
      let n : 8 - i ≡ 0 = omega arith in
      ap (λ (m : ℕ). bits_from change message byte m i x st) (sym n) ∙ w

  -- a byte without a set bit leaves the state
  pub byte_clear : (x : ℕ) (st : S) → x ≡ 0 → st ≡ in_byte change message byte x st
  unfolding bits_from
  byte_clear x st z = ap (λ (y : ℕ). in_byte change message byte y st) (sym z)

-- ---- one bit

module _ {S : Type 0} (change : Entry → S → S) (b : Bool) (e : Entry) (st : S) where
  -- one that is set, whose entry is known
  pub bit-set : {e' : Entry} {r : S} → b ≡ true → e' ≡ e → r ≡ change e' st → r ≡ pick b (change e st) st
  bit-set z q f = f ∙ rw z (ap (λ (x : Entry). change x st) q)

  -- one that is not set
  pub bit_unset : b ≡ false → st ≡ pick b (change e st) st
  bit_unset z = rw z

-- ---- places

-- the entry of a bit of byte j
pub entry_here : (message j i : ℕ) → i < 8 → entry_at message (8 * j + i) ≡ entry_of message (j + 1) i
unfolding entry_at
entry_here message j i h =
    let a : (8 * j + i) / 8 ≡ j = omega arith in
    let b : (8 * j + i) % 8 ≡ i = omega arith in
    rw (a, b)

module _ (count : ℕ) (bits : List ℕ) where
  -- whether a bit of a bitfield byte is selected
  pub selected_here : (j i : ℕ) → j < count → i < 8 → selected_at count bits (8 * j + i) ≡ eqb (get_or bits j 0 / 2 ^ i % 2) 1
  unfolding selected_at
  selected_here j i h l =
      let a : (8 * j + i) / 8 ≡ j = omega arith in
      let b : (8 * j + i) % 8 ≡ i = omega arith in
      rw (a, b, lt-ltb j count h)

  pub past : (k : ℕ) → count ≤ k / 8 → selected_at count bits k ≡ false
  unfolding selected_at
  past k h = rw (le-ltb (k / 8) count h)

  module _ {S : Type 0} (change : ℕ → S → S) where
    -- one byte more
    all_more : (j : ℕ) (st : S) → j < most_bitfields
        → walk (selected_at count bits) change (all_places - 8 * (j + 1)) (8 * (j + 1)) (walk (selected_at count bits) change 8 (8 * j) st)
        ≡ walk (selected_at count bits) change (all_places - 8 * j) (8 * j) st
    all_more j st h =
        let n : 8 + (all_places - 8 * (j + 1)) ≡ all_places - 8 * j = omega arith in
        let k : 8 * j + 8 ≡ 8 * (j + 1) = omega arith in
        sym
        (ap (λ (m : ℕ). walk (selected_at count bits) change m (8 * j) st) (sym n)
        ∙ walk_add (selected_at count bits) change 8 (all_places - 8 * (j + 1)) (8 * j) st
        ∙ ap (λ (m : ℕ). walk (selected_at count bits) change (all_places - 8 * (j + 1)) m (walk (selected_at count bits) change 8 (8 * j) st)) k)

    -- no byte is left
    all_done : (j : ℕ) (st : S) → count ≤ j → walk (selected_at count bits) change (all_places - 8 * j) (8 * j) st ≡ st
    all_done j st h = walk_skip (selected_at count bits) change (all_places - 8 * j) (8 * j) st (λ k p q. past k (omega arith))

-- a place whose bitfield byte is zero is not selected
clear_at : (count : ℕ) (bits : List ℕ) (k : ℕ) → (k / 8 < count → get_or bits (k / 8) 0 ≡ 0) → selected_at count bits k ≡ false
unfolding selected_at
clear_at count bits k z = go (ltb (k / 8) count) refl
  where
    go : (t : Bool) → ltb (k / 8) count ≡ t → selected_at count bits k ≡ false
    go false e = rw e
    go true e = rw (e, z (ltb-true (k / 8) count e)) (rw (zero-div (2 ^ (k % 8))))

-- a byte of a blank part is 0
pub nul_at : (s : List ℕ) → all_nul s ≡ true → (j : ℕ) → get_or s j 0 ≡ 0
nul_at [] h j = refl
nul_at (b ∷ s) h zero = eqb-true b 0 ((and-eq-true_iff (eqb b 0) (all_nul s)).0 h).0
nul_at (b ∷ s) h (suc j) = nul_at s ((and-eq-true_iff (eqb b 0) (all_nul s)).0 h).1 j

nul_within : (count : ℕ) (bits : List ℕ) (j i : ℕ) → all_nul (take (count - j) (drop j bits)) ≡ true → j ≤ i → i < count → get_or bits i 0 ≡ 0
nul_within count bits j i z h l =
    let e : j + (i - j) ≡ i = omega arith in
    ap (λ (m : ℕ). get_or bits m 0) (sym e)
    ∙ sym (get_or-drop j bits (i - j) 0)
    ∙ sym (get_or-take (count - j) (drop j bits) (i - j) 0 (omega arith))
    ∙ nul_at (take (count - j) (drop j bits)) z (i - j)

-- whether an entry is of a bit that is not listed
abbrev refused : Entry → Bool
refused Refused = true
refused (Field w k p) = false

refused_is : (e : Entry) → refused e ≡ true → e ≡ Refused
refused_is Refused h = refl
refused_is (Field w k p) h = absurd (false≢true h)

-- whether the dictionary lists none of n places from k on
unfoldable pub unlisted : ℕ → ℕ → ℕ → Bool
unlisted message zero k = true
unlisted message (suc n) k = refused (entry_at message k) && unlisted message n (suc k)

pick_same : {S : Type 0} (b : Bool) (st : S) → pick b st st ≡ st
pick_same true st = refl
pick_same false st = refl

-- ---- the same, as a loop over a dictionary's entries has it

module _ {S : Type 0} (change : ℕ → Entry → S → S) (message count : ℕ) (bits : List ℕ) where
  -- the walk of n places from k on, whose change may look at the bitfield byte
  abbrev pub over : ℕ → ℕ → S → S
  over n k st = walk (selected_at count bits) (λ (i : ℕ). change (byte_at i) (entry_at message i)) n k st

  -- n places of byte j from its bit i on
  places : (j n i : ℕ) (st : S) → j < count → i + n ≤ 8 → over n (8 * j + i) st ≡ bits_from (change (j + 1)) message (j + 1) n i (get_or bits j 0 / 2 ^ i) st
  unfolding walk bits_from
  places j zero i st h l = refl
  places j (suc n) i st h l =
      let x : ℕ = get_or bits j 0 / 2 ^ i in
      let k : suc (8 * j + i) ≡ 8 * j + (i + 1) = omega arith in
      let b : selected_at count bits (8 * j + i) ≡ eqb (get_or bits j 0 / 2 ^ i % 2) 1 = selected_here count bits j i h (omega arith) in
      let e : entry_at message (8 * j + i) ≡ entry_of message (j + 1) i = entry_here message j i (omega arith) in
      let d : byte_at (8 * j + i) ≡ j + 1 = omega arith in
      let s : pick (selected_at count bits (8 * j + i)) (change (byte_at (8 * j + i)) (entry_at message (8 * j + i)) st) st ≡ pick (eqb (x % 2) 1) (change (j + 1) (entry_of message (j + 1) i) st) st =
      ap₂ (λ (c : Bool) (y : Entry). pick c (change (byte_at (8 * j + i)) y st) st) b e ∙ ap (λ (m : ℕ). pick (eqb (x % 2) 1) (change m (entry_of message (j + 1) i) st) st) d
      in
      ap₂ (λ (m : ℕ) (y : S). over n m y) k s
      ∙ places j n (i + 1) (pick (eqb (x % 2) 1) (change (j + 1) (entry_of message (j + 1) i) st) st) h (omega arith)
      ∙ ap₂ (λ (m y : ℕ). bits_from (change (j + 1)) message (j + 1) n m y (pick (eqb (x % 2) 1) (change (j + 1) (entry_of message (j + 1) i) st) st)) (add-one i) (sym (halved (get_or bits j 0) i))

  -- a byte of bitfields is its eight places
  byte_is : (j : ℕ) (st : S) → j < count → in_byte (change (j + 1)) message (j + 1) (get_or bits j 0) st ≡ over 8 (8 * j) st
  byte_is j st h =
      let one : get_or bits j 0 ≡ get_or bits j 0 / 2 ^ 0 = omega arith in
      ap (λ (y : ℕ). in_byte (change (j + 1)) message (j + 1) y st) one ∙ sym (places j 8 0 st h (omega arith)) ∙ ap (λ (k : ℕ). over 8 k st) (add-zero (8 * j))

  -- a turn of the loop over the bitfield bytes
  pub byte_turn : (j value : ℕ) (st st' last : S) → j < count → count ≤ most_bitfields → value ≡ get_or bits j 0 → st' ≡ in_byte (change (j + 1)) message (j + 1) value st
      → over (all_places - 8 * j) (8 * j) st ≡ last → over (all_places - 8 * (j + 1)) (8 * (j + 1)) st' ≡ last
  byte_turn j value st st' last h l v s w =
      ap (over (all_places - 8 * (j + 1)) (8 * (j + 1))) (s ∙ ap (λ (y : ℕ). in_byte (change (j + 1)) message (j + 1) y st) v ∙ byte_is j st h)
      ∙ all_more count bits (λ (k : ℕ). change (byte_at k) (entry_at message k)) j st (omega arith)
      ∙ w

  -- its end
  pub bytes_end : (j : ℕ) (st last : S) → count ≤ j → over (all_places - 8 * j) (8 * j) st ≡ last → st ≡ last
  bytes_end j st last h w = sym (all_done count bits (λ (k : ℕ). change (byte_at k) (entry_at message k)) j st h) ∙ w

  -- ---- and the same, byte after byte without a loop

  -- a byte past the count leaves the state
  byte_past : (j : ℕ) (st : S) → count ≤ j → over (all_places - 8 * (j + 1)) (8 * (j + 1)) st ≡ over (all_places - 8 * j) (8 * j) st
  byte_past j st h =
      all_done count bits (λ (k : ℕ). change (byte_at k) (entry_at message k)) (j + 1) st (omega arith)
      ∙ sym (all_done count bits (λ (k : ℕ). change (byte_at k) (entry_at message k)) j st h)

  byte_either : (j value : ℕ) (st st' : S) (t : Bool) → ltb j count ≡ t → count ≤ most_bitfields → value ≡ pick t (get_or bits j 0) 0 → st' ≡ in_byte (change (j + 1)) message (j + 1) value st
      → over (all_places - 8 * (j + 1)) (8 * (j + 1)) st' ≡ over (all_places - 8 * j) (8 * j) st
  byte_either j value st st' true e l v s = byte_turn j value st st' _ (ltb-true j count e) l v s refl
  byte_either j value st st' false e l v s =
      ap (over (all_places - 8 * (j + 1)) (8 * (j + 1))) (s ∙ sym (byte_clear (change (j + 1)) message (j + 1) value st v)) ∙ byte_past j st (ltb-false j count e)

  -- one byte, which is `value`, or 0 past the count: what is left to walk from the state after it ends as what was left before it
  pub byte_given : (byte value : ℕ) (st st' : S) → 1 ≤ byte → count ≤ most_bitfields → value ≡ pick (ltb (byte - 1) count) (get_or bits (byte - 1) 0) 0
      → st' ≡ in_byte (change byte) message byte value st → over (all_places - 8 * byte) (8 * byte) st' ≡ over (all_places - 8 * (byte - 1)) (8 * (byte - 1)) st
  byte_given byte value st st' h l v s =
      let e : byte ≡ byte - 1 + 1 = omega arith in
      ap (λ (b : ℕ). over (all_places - 8 * b) (8 * b) st') e
      ∙ byte_either (byte - 1) value st st' (ltb (byte - 1) count) refl l v (s ∙ ap (λ (b : ℕ). in_byte (change b) message b value st) e)

  -- bytes from j on without a set bit leave the state
  pub bytes-clear : (j : ℕ) (st : S) → all_nul (take (count - j) (drop j bits)) ≡ true → st ≡ over (all_places - 8 * j) (8 * j) st
  bytes-clear j st z =
      sym (walk_skip (selected_at count bits) (λ (k : ℕ). change (byte_at k) (entry_at message k)) (all_places - 8 * j) (8 * j) st (λ k p q. clear_at count bits k (λ h. nul_within count bits j (k / 8) z (omega arith) h)))

  -- places that the dictionary does not list leave the state, where an unlisted bit does
  pub places-unlisted : (n k : ℕ) (st : S) → ((byte : ℕ) (st : S) → change byte Refused st ≡ st) → unlisted message n k ≡ true → over n k st ≡ st
  unfolding walk unlisted
  places-unlisted zero k st r u = refl
  places-unlisted (suc n) k st r u =
      let both = (and-eq-true_iff (refused (entry_at message k)) (unlisted message n (suc k))).0 u in
      ap (over n (suc k)) (ap (λ (y : S). pick (selected_at count bits k) y st) (ap (λ (e : Entry). change (byte_at k) e st) (refused_is (entry_at message k) both.0) ∙ r (byte_at k) st) ∙ pick_same (selected_at count bits k) st)
      ∙ places-unlisted n (suc k) st r both.1
