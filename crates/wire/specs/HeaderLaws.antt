-- What is true of the header: written and read, and read and written. Assumes nothing.
use Rattle.std.specs.Prelude.{◌≡◌, refl, List, [], ◌∷◌, ◌++◌, ℕ, zero, suc, ◌+◌, ◌*◌, ◌≤◌, ◌<◌, length, get_or, take}
use Rattle.std.proofs.Common.{sym, ap₂, ◌∙◌}
use Rattle.std.proofs.Math.Path.{ap}
use native.Mathlib.Omega.{arith}
use Rattle.numbers.specs.Numbers.{bytes_of}
use Rattle.numbers.specs.NumberLaws.{bytes_back}
use Rattle.wire.specs.Header.{header_bytes, length_of, type_of, unit_of, number_of, total_of}

-- every element is a byte
abbrev pub Bytes : List ℕ → Type 0
Bytes s = (i : ℕ) → get_or s i 0 < 256

-- ---- a header with anything after it

module _ (l t u n : ℕ) (s : List ℕ) where
  pub header-length : l < 65536 → length_of (header_bytes l t u n ++ s) ≡ l
  unfolding length_of
  header-length h = omega arith

  pub header_type : type_of (header_bytes l t u n ++ s) ≡ t
  header_type = refl

  pub header-unit : unit_of (header_bytes l t u n ++ s) ≡ u
  header-unit = refl

  pub header_number : n < 4294967296 → number_of (header_bytes l t u n ++ s) ≡ n
  unfolding number_of
  header_number h = omega arith

  pub header_total : l < 65536 → total_of (header_bytes l t u n ++ s) ≡ l + 2
  unfolding total_of
  header_total h = ap (λ (x : ℕ). x + 2) (header-length h)

-- ---- ten bytes that begin with BA BA are the header of what they say

more : (b : ℕ) (s : List ℕ) → b < 256 → Bytes s → Bytes (b ∷ s)
more b s h k zero = h
more b s h k (suc i) = k i

none : Bytes []
none i = omega arith

two : (a b : ℕ) → a < 256 → b < 256 → bytes_of 2 (a + 256 * (b + 256 * 0)) ≡ a ∷ b ∷ []
two a b ha hb = bytes_back 2 (a ∷ b ∷ []) (omega arith) (more a (b ∷ []) ha (more b [] hb none))

four : (a b c d : ℕ) → a < 256 → b < 256 → c < 256 → d < 256 → bytes_of 4 (a + 256 * (b + 256 * (c + 256 * (d + 256 * 0)))) ≡ a ∷ b ∷ c ∷ d ∷ []
four a b c d ha hb hc hd =
    bytes_back 4 (a ∷ b ∷ c ∷ d ∷ []) (omega arith) (more a (b ∷ c ∷ d ∷ []) ha (more b (c ∷ d ∷ []) hb (more c (d ∷ []) hc (more d [] hd none))))

pub header-again : (m : List ℕ) → 10 ≤ length m → Bytes m → get_or m 0 0 ≡ 186 → get_or m 1 0 ≡ 186
    → header_bytes (length_of m) (type_of m) (unit_of m) (number_of m) ≡ take 10 m
unfolding length_of number_of
header-again (b0 ∷ b1 ∷ b2 ∷ b3 ∷ b4 ∷ b5 ∷ b6 ∷ b7 ∷ b8 ∷ b9 ∷ m) h k e0 e1 =
    ap₂ (λ (x y : List ℕ). 186 ∷ 186 ∷ x ++ (b4 ∷ b5 ∷ y)) (two b2 b3 (k 2) (k 3)) (four b6 b7 b8 b9 (k 6) (k 7) (k 8) (k 9))
    ∙ ap₂ (λ (x y : ℕ). x ∷ y ∷ b2 ∷ b3 ∷ b4 ∷ b5 ∷ b6 ∷ b7 ∷ b8 ∷ b9 ∷ []) (sym e0) (sym e1)
header-again [] h k e0 e1 = absurd (omega (arith, h))
header-again (b0 ∷ []) h k e0 e1 = absurd (omega (arith, h))
header-again (b0 ∷ b1 ∷ []) h k e0 e1 = absurd (omega (arith, h))
header-again (b0 ∷ b1 ∷ b2 ∷ []) h k e0 e1 = absurd (omega (arith, h))
header-again (b0 ∷ b1 ∷ b2 ∷ b3 ∷ []) h k e0 e1 = absurd (omega (arith, h))
header-again (b0 ∷ b1 ∷ b2 ∷ b3 ∷ b4 ∷ []) h k e0 e1 = absurd (omega (arith, h))
header-again (b0 ∷ b1 ∷ b2 ∷ b3 ∷ b4 ∷ b5 ∷ []) h k e0 e1 = absurd (omega (arith, h))
header-again (b0 ∷ b1 ∷ b2 ∷ b3 ∷ b4 ∷ b5 ∷ b6 ∷ []) h k e0 e1 = absurd (omega (arith, h))
header-again (b0 ∷ b1 ∷ b2 ∷ b3 ∷ b4 ∷ b5 ∷ b6 ∷ b7 ∷ []) h k e0 e1 = absurd (omega (arith, h))
header-again (b0 ∷ b1 ∷ b2 ∷ b3 ∷ b4 ∷ b5 ∷ b6 ∷ b7 ∷ b8 ∷ []) h k e0 e1 = absurd (omega (arith, h))
