-- Lists of bytes, and lists that end in zeros. Assumes nothing.
use Rattle.std.specs.Prelude.{◌≡◌, refl, Bool, true, ◌&&◌, List, [], ◌∷◌, ◌++◌, ℕ, zero, suc, ◌+◌, ◌-◌, ◌/◌, ◌≤◌, ◌<◌, ltb, get_or, drop}
use Rattle.std.proofs.Common.{sym, ap, ◌∙◌, arith, get_or-drop, ltb-true}
use Rattle.numbers.specs.Numbers.{bytes_of}
use Rattle.wire.specs.HeaderLaws.{Bytes}
use Rattle.block.specs.Slots.{zeros}
use Rattle.block.specs.SlotLaws.{both_true}

-- a byte in front
pub bytes-front : (x : ℕ) (xs : List ℕ) → x < 256 → Bytes xs → Bytes (x ∷ xs)
bytes-front x xs h k zero = h
bytes-front x xs h k (suc i) = k i

-- bytes, and bytes after them
pub bytes_append : (xs ys : List ℕ) → Bytes xs → Bytes ys → (i : ℕ) → get_or (xs ++ ys) i 0 < 256
bytes_append [] ys h k i = k i
bytes_append (x ∷ xs) ys h k zero = h 0
bytes_append (x ∷ xs) ys h k (suc i) = bytes_append xs ys (λ j. h (suc j)) k i

-- zeros are zero
pub zero_byte : (n i : ℕ) → get_or (zeros n) i 0 ≡ 0
zero_byte zero i = refl
zero_byte (suc n) zero = refl
zero_byte (suc n) (suc i) = zero_byte n i

-- zeros
pub bytes-zeros : (n i : ℕ) → get_or (zeros n) i 0 < 256
bytes-zeros n i = rw (zero_byte n i) (omega arith)

-- the bytes of a number
pub number_bytes : (n v i : ℕ) → get_or (bytes_of n v) i 0 < 256
number_bytes zero v i = omega arith
number_bytes (suc n) v zero = omega arith
number_bytes (suc n) v (suc i) = number_bytes n (v / 256) i

-- a list of bytes, tested
abbrev pub below : List ℕ → Bool
below [] = true
below (x ∷ l) = ltb x 256 && below l

pub bytes_below : (l : List ℕ) → below l ≡ true → (i : ℕ) → get_or l i 0 < 256
bytes_below [] h i = omega arith
bytes_below (x ∷ l) h zero = ltb-true x 256 (both_true (ltb x 256) (below l) h).0
bytes_below (x ∷ l) h (suc i) = bytes_below l (both_true (ltb x 256) (below l) h).1 i

-- a list that is zero from place a on
pub ends_at : (a n : ℕ) (l : List ℕ) → drop a l ≡ zeros n → (i : ℕ) → a ≤ i → get_or l i 0 ≡ 0
ends_at a n l e i h =
    let q : a + (i - a) ≡ i = omega arith in
    ap (λ (j : ℕ). get_or l j 0) (sym q) ∙ sym (get_or-drop a l (i - a) 0) ∙ ap (λ (x : List ℕ). get_or x (i - a) 0) e ∙ zero_byte n (i - a)
