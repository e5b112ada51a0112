-- How many bytes the fields take that a walk has still to pass: by places, and by the bits of one byte, as the code's walks go. Where they
-- fit at the start, each of them fits when its turn comes. Assumes nothing.
use Rattle.std.specs.Prelude.{◌≡◌, Bool, true, false, List, eqb, ltb, get_or}
use Rattle.std.proofs.Math.Path.{refl, sym, ap, ap₂}
use Rattle.std.proofs.Common.{◌∙◌, add_assoc, zero-add, add-one, ltb-true, ltb-false, lt-ltb}
use Prim.Native.Nat.{ℕ, zero, suc, ◌+◌, ◌*◌, ◌-◌, ◌/◌, ◌%◌, ◌^◌, ◌≤◌, ◌<◌}
use Rattle.std.proofs.Math.Nat.{add-zero}
use native.Mathlib.Omega.{arith}
use Rattle.dictionary.specs.declared.Entry.{Entry}
use Rattle.dictionary.specs.Dictionary.{entry_of}
use Rattle.block.specs.Slots.{slot, width_of, takes, sum}
use Rattle.block.specs.Places.{selected_at, entry_at, slots_from}
use Rattle.block.specs.Walk.{pick}
use Rattle.block.specs.Loops.{halved, entry_here, selected_here, past}
use Rattle.block.specs.Sizes.{all_places, most_bitfields}

-- the bytes that a bit selects
abbrev pub bit_takes : Bool → Entry → ℕ
bit_takes set e = pick set (width_of e) 0

-- the bytes that n bits of one bitfield byte select, from bit i on; x is what is left of the byte there, its lowest bit first
unfoldable pub bits_take : ℕ → ℕ → ℕ → ℕ → ℕ → ℕ
bits_take message byte zero i x = 0
bits_take message byte (suc n) i x = bit_takes (eqb (x % 2) 1) (entry_of message byte i) + bits_take message byte n (suc i) (x / 2)

-- the bytes that n places from k on select
abbrev pub left : ℕ → ℕ → List ℕ → ℕ → ℕ → ℕ
left message count bits n k = sum takes (slots_from (selected_at count bits) (entry_at message) n k)

-- a bit's, and then those of the bits after it
pub take-turn : (message byte i x : ℕ) → i < 8
    → bits_take message byte (8 - i) i x ≡ bit_takes (eqb (x % 2) 1) (entry_of message byte i) + bits_take message byte (8 - (i + 1)) (i + 1) (x / 2)
unfolding bits_take
take-turn message byte i x h =
    let n : 8 - i ≡ suc (8 - (i + 1)) = omega arith in
    ap (λ (m : ℕ). bits_take message byte m i x) n
    ∙ ap (λ (k : ℕ). bit_takes (eqb (x % 2) 1) (entry_of message byte i) + bits_take message byte (8 - (i + 1)) k (x / 2)) (sym (add-one i))

-- a byte without a set bit selects none
pub take-clear : (message byte x : ℕ) → x ≡ 0 → bits_take message byte 8 0 x ≡ 0
unfolding bits_take
take-clear message byte x z = ap (λ (y : ℕ). bits_take message byte 8 0 y) z

takes_is : (b : Bool) (e : Entry) → takes (slot b e) ≡ bit_takes b e
takes_is true e = refl
takes_is false e = refl

module _ (message count : ℕ) (bits : List ℕ) where
  -- some places, and then the others
  left_add : (m n k : ℕ) → left message count bits (m + n) k ≡ left message count bits m k + left message count bits n (k + m)
  unfolding slots_from
  left_add zero n k = rw (zero-add n, add-zero k) (sym (zero-add _))
  left_add (suc m) n k =
      let e : suc k + m ≡ k + suc m = omega arith in
      let s : suc m + n ≡ suc (m + n) = omega arith in
      ap (λ (i : ℕ). left message count bits i k) s
      ∙ ap (λ (y : ℕ). takes (slot (selected_at count bits k) (entry_at message k)) + y) (left_add m n (suc k) ∙ ap (λ (j : ℕ). left message count bits m (suc k) + left message count bits n j) e)
      ∙ sym (add_assoc (takes (slot (selected_at count bits k) (entry_at message k))) (left message count bits m (suc k)) (left message count bits n (k + suc m)))

  -- n places of byte j from its bit i on
  left_bits : (j n i : ℕ) → j < count → i + n ≤ 8 → left message count bits n (8 * j + i) ≡ bits_take message (j + 1) n i (get_or bits j 0 / 2 ^ i)
  unfolding slots_from bits_take
  left_bits j zero i h l = refl
  left_bits j (suc n) i h l =
      let k : suc (8 * j + i) ≡ 8 * j + (i + 1) = omega arith in
      ap₂ (λ (a b : ℕ). a + b)
      (takes_is (selected_at count bits (8 * j + i)) (entry_at message (8 * j + i)) ∙ ap₂ (λ (c : Bool) (y : Entry). bit_takes c y) (selected_here count bits j i h (omega arith)) (entry_here message j i (omega arith)))
      (ap (λ (m : ℕ). left message count bits n m) k
      ∙ left_bits j n (i + 1) h (omega arith)
      ∙ ap₂ (λ (m y : ℕ). bits_take message (j + 1) n m y) (add-one i) (sym (halved (get_or bits j 0) i)))

  -- places past the count select none
  left-past : (n k : ℕ) → count ≤ k / 8 → left message count bits n k ≡ 0
  unfolding slots_from
  left-past zero k h = refl
  left-past (suc n) k h = ap₂ (λ (a b : ℕ). a + b) (takes_is (selected_at count bits k) (entry_at message k) ∙ ap (λ (c : Bool). bit_takes c (entry_at message k)) (past count bits k h)) (left-past n (suc k) (omega arith))

  left-eight : (j value : ℕ) (t : Bool) → ltb j count ≡ t → value ≡ pick t (get_or bits j 0) 0 → left message count bits 8 (8 * j) ≡ bits_take message (j + 1) 8 0 value
  left-eight j value true e v =
      let one : get_or bits j 0 / 2 ^ 0 ≡ get_or bits j 0 = omega arith in
      ap (λ (k : ℕ). left message count bits 8 k) (sym (add-zero (8 * j)))
      ∙ left_bits j 8 0 (ltb-true j count e) (omega arith)
      ∙ ap (λ (y : ℕ). bits_take message (j + 1) 8 0 y) (one ∙ sym v)
  left-eight j value false e v = let h = ltb-false j count e in left-past 8 (8 * j) (omega arith) ∙ sym (take-clear message (j + 1) value v)

  -- one byte, which is `value`, or 0 past the count: its bytes, and then those of the bytes after it
  pub left_byte : (byte value : ℕ) → 1 ≤ byte → byte ≤ most_bitfields → value ≡ pick (ltb (byte - 1) count) (get_or bits (byte - 1) 0) 0
      → left message count bits (all_places - 8 * (byte - 1)) (8 * (byte - 1)) ≡ bits_take message byte 8 0 value + left message count bits (all_places - 8 * byte) (8 * byte)
  left_byte byte value h l v =
      let n : all_places - 8 * (byte - 1) ≡ 8 + (all_places - 8 * byte) = omega arith in
      let k : 8 * (byte - 1) + 8 ≡ 8 * byte = omega arith in
      let b : byte - 1 + 1 ≡ byte = omega arith in
      ap (λ (m : ℕ). left message count bits m (8 * (byte - 1))) n
      ∙ left_add 8 (all_places - 8 * byte) (8 * (byte - 1))
      ∙ ap₂ (λ (x y : ℕ). x + y)
      (left-eight (byte - 1) value (ltb (byte - 1) count) refl v ∙ ap (λ (y : ℕ). bits_take message y 8 0 value) b)
      (ap (λ (m : ℕ). left message count bits (all_places - 8 * byte) m) k)

  -- a byte of the loop: its bytes, and then those of the bytes after it
  pub left-turn : (j value : ℕ) → j < count → count ≤ most_bitfields → value ≡ get_or bits j 0
      → left message count bits (all_places - 8 * j) (8 * j) ≡ bits_take message (j + 1) 8 0 value + left message count bits (all_places - 8 * (j + 1)) (8 * (j + 1))
  left-turn j value h l v =
      let e : j + 1 - 1 ≡ j = omega arith in
      ap (λ (i : ℕ). left message count bits (all_places - 8 * i) (8 * i)) (sym e)
      ∙ left_byte (j + 1) value (omega arith) (omega arith) (v ∙ rw (e, lt-ltb j count h))
