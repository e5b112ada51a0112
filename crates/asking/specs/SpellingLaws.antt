-- What is true of an answer's text: where the two digits of a byte stand, and that they are read as the byte again. Assumes nothing.
use Rattle.std.specs.Prelude.{◌≡◌, refl, Bool, true, false, cond, List, [], ◌∷◌, ℕ, zero, suc, ◌+◌, ◌*◌, ◌/◌, ◌%◌, ◌≤◌, ◌<◌, ltb, length, get_or}
use Rattle.std.proofs.Common.{ap, ap₂, ◌∙◌, arith, ltb-true, ltb-false, le-leb}
use Rattle.std.proofs.lemmas.Bool.{lt-leb}
use Rattle.asking.specs.Words.{nibble_of, bytes_in}
use Rattle.asking.specs.Spelling.{capital, hex_of}

-- two digits a byte
pub hex_length : (s : List ℕ) → length (hex_of s) ≡ 2 * length s
unfolding hex_of
hex_length [] = refl
hex_length (b ∷ s) = omega (arith, hex_length s)

-- the upper one
pub upper_digit : (s : List ℕ) (i : ℕ) → i < length s → get_or (hex_of s) (2 * i) 0 ≡ capital (get_or s i 0 / 16)
unfolding hex_of
upper_digit [] i h = absurd (omega (arith, h))
upper_digit (b ∷ s) zero h = refl
upper_digit (b ∷ s) (suc i) h =
    let x : 2 * suc i ≡ suc (suc (2 * i)) = omega arith in
    ap (λ (m : ℕ). get_or (hex_of (b ∷ s)) m 0) x ∙ upper_digit s i (omega (arith, h))

-- and the lower one after it
pub lower_digit : (s : List ℕ) (i : ℕ) → i < length s → get_or (hex_of s) (2 * i + 1) 0 ≡ capital (get_or s i 0 % 16)
unfolding hex_of
lower_digit [] i h = absurd (omega (arith, h))
lower_digit (b ∷ s) zero h = refl
lower_digit (b ∷ s) (suc i) h =
    let x : 2 * suc i + 1 ≡ suc (suc (2 * i + 1)) = omega arith in
    ap (λ (m : ℕ). get_or (hex_of (b ∷ s)) m 0) x ∙ lower_digit s i (omega (arith, h))

-- a digit counts what it was made of
digit-back : (d : ℕ) → d < 16 → nibble_of (capital d) ≡ d
digit-back d h = by (ltb d 10) refl
  where
    by : (b : Bool) → ltb d 10 ≡ b → nibble_of (cond b (48 + d) (55 + d)) ≡ d
    by true e =
        let l : d < 10 = ltb-true d 10 e in
        rw (le-leb 48 (48 + d) (omega arith), le-leb (48 + d) 57 (omega arith)) (omega arith)
    by false e =
        let l : 10 ≤ d = ltb-false d 10 e in
        rw (le-leb 48 (55 + d) (omega arith), lt-leb (55 + d) 57 (omega arith), le-leb 65 (55 + d) (omega arith), le-leb (55 + d) 70 (omega arith)) (omega arith)

-- READ OF SPELLED: the bytes of bytes in hex are these
pub read_of_spelled : (s : List ℕ) → ((i : ℕ) → get_or s i 0 < 256) → bytes_in (hex_of s) ≡ s
unfolding hex_of bytes_in
read_of_spelled [] k = refl
read_of_spelled (b ∷ s) k =
    let l : b < 256 = k 0 in
    let e : nibble_of (capital (b / 16)) * 16 + nibble_of (capital (b % 16)) ≡ b =
    ap₂ (λ (h m : ℕ). h * 16 + m) (digit-back (b / 16) (omega arith)) (digit-back (b % 16) (omega arith)) ∙ omega arith in
    ap₂ (λ (x : ℕ) (y : List ℕ). x ∷ y) e (read_of_spelled s (λ i. k (suc i)))
