-- Which bytes the plain kinds allow, as the sums of a lane tell them: computed for the 128 bytes below 128. None from 128 on is allowed, and NUL is not.
-- Assumes nothing.
use mathlib.Core.Path.{◌≡◌, refl, sym, subst}
use mathlib.Core.Bool.{Bool, true, false, not, ◌&&◌, ◌||◌, and-false, and-eq-true_iff}
use mathlib.Core.Logic.{⊎_elim}
use Prim.Native.Nat.{ℕ, zero, suc, ◌+◌, ◌≤◌, ◌<◌}
use native.Mathlib.Nat.{le_of_suc-le-suc, eq-or-lt_of_le}
use native.Mathlib.Omega.{arith}
use lib.Bits.{bit_or, bit_xor}
use lib.Dec.{leb}
use borrow.Author.Tests.{lt-leb}
use Rattle.kinds.specs.declared.Kind.TheVariants.{Alphanumeric, Text}
use Rattle.kinds.specs.declared.Plain.{Plain}
use Rattle.kinds.specs.declared.Plain.TheVariants.{OfA, OfN, OfT}
use Rattle.kinds.specs.Kinds.{within, letter, allowed}
use Rattle.kinds.specs.Words.{kind_of, lanes, Low, Marks}
use Rattle.kinds.proofs.Lanes.{differs, low_small, marks_small, marks_or, marks_between, marks_same}

-- a test holds of every number below n
below : ℕ → (ℕ → Bool) → Bool
below zero t = true
below (suc n) t = t n && below n t

below_each : (n : ℕ) (t : ℕ → Bool) → below n t ≡ true → (b : ℕ) → b < n → t b ≡ true
unfolding below
below_each zero t h b l = absurd (omega arith)
below_each (suc n) t h b l =
    let each = (and-eq-true_iff (t n) (below n t)).0 h in
    ⊎_elim (λ (e : b ≡ n). subst (λ (m : ℕ). t m ≡ true) (sym e) each.0) (λ (k : b < n). below_each n t each.1 b k) (eq-or-lt_of_le (le_of_suc-le-suc l))

same : Bool → Bool → Bool
same s t = not (differs s t)

same_is : (s t : Bool) → same s t ≡ true → s ≡ t
unfolding same
same_is true true h = refl
same_is true false h = sym h
same_is false true h = h
same_is false false h = refl

-- two tests that say the same of the 128 bytes below 128, by computation
module _ (p q : ℕ → Bool) (h : below 128 (λ b. same (p b) (q b)) ≡ true) where
  alike : (b : ℕ) → b < 128 → p b ≡ q b
  alike b l = same_is (p b) (q b) (below_each 128 (λ b. same (p b) (q b)) h b l)

pub letter_lane : (b : ℕ) → b < 128 → differs (leb 97 (bit_or b 32)) (leb 123 (bit_or b 32)) ≡ letter b
unfolding below same
letter_lane = alike (λ b. differs (leb 97 (bit_or b 32)) (leb 123 (bit_or b 32))) letter refl

pub alphanumeric_lane : (b : ℕ) → b < 128 → (letter b || differs (leb 48 b) (leb 58 b)) ≡ allowed Alphanumeric b
unfolding below same
alphanumeric_lane = alike (λ b. letter b || differs (leb 48 b) (leb 58 b)) (allowed Alphanumeric) refl

pub text_lane : (b : ℕ) → b < 128 → differs (leb 32 b) (leb 127 b) ≡ allowed Text b
unfolding below same
text_lane = alike (λ b. differs (leb 32 b) (leb 127 b)) (allowed Text) refl

-- ---- their marks in a word of n lanes below 128

module _ (n y : ℕ) (low : Low n y) where
  pub letters_marked : Marks letter n y (bit_xor (bit_or y (lanes n 32) + lanes n 31) (bit_or y (lanes n 32) + lanes n 5))
  letters_marked =
      let small = bit_or y (lanes n 32) in
      marks_same _ letter letter_lane n y _ low
      (marks_small (λ b. differs (leb 97 b) (leb 123 b)) n y _ (marks_between n small 31 5 (omega arith) (omega arith) (low_small n y low)))

  pub alphanumeric_marked : (g : ℕ) → Marks letter n y g → Marks (allowed Alphanumeric) n y (bit_or g (bit_xor (y + lanes n 80) (y + lanes n 70)))
  alphanumeric_marked g m =
      marks_same _ (allowed Alphanumeric) alphanumeric_lane n y _ low (marks_or letter _ n y g _ m (marks_between n y 80 70 (omega arith) (omega arith) low))

  pub text_marked : Marks (allowed Text) n y (bit_xor (y + lanes n 96) (y + lanes n 1))
  text_marked = marks_same _ (allowed Text) text_lane n y _ low (marks_between n y 96 1 (omega arith) (omega arith) low)

-- NUL is no character of a plain kind
pub nul_no_character : (q : Plain) → allowed (kind_of q) 0 ≡ false
nul_no_character OfA = refl
nul_no_character OfN = refl
nul_no_character OfT = refl

-- and no byte from 128 on is
beyond : (low high b : ℕ) → high < 128 → 128 ≤ b → within low high b ≡ false
beyond low high b l h = rw (lt-leb b high (omega arith)) (and-false (leb low b))

pub high_no_character : (q : Plain) (b : ℕ) → 128 ≤ b → allowed (kind_of q) b ≡ false
high_no_character OfA b h = rw (beyond 65 90 b (omega arith) h, beyond 97 122 b (omega arith) h)
high_no_character OfN b h = rw (beyond 48 57 b (omega arith) h, beyond 65 90 b (omega arith) h, beyond 97 122 b (omega arith) h)
high_no_character OfT b h = beyond 32 126 b (omega arith) h
