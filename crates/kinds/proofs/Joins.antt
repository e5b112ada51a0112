-- A text in parts: what its words, or two windows on it, say one by one, joined; and a text whose last byte is not NUL. A word's bytes are its number's, so
-- that a word below 256 to the 7th ends with NUL, after which all is NUL. Assumes nothing.
use mathlib.Core.Path.{◌≡◌, refl, sym, ap, ap₂, ◌∙◌}
use mathlib.Core.Bool.{Bool, true, false, cond, ◌&&◌, and_assoc, and-true, false≢true}
use mathlib.Core.List.{List, [], ◌∷◌, ◌++◌}
use Prim.Native.Nat.{ℕ, zero, suc, ◌+◌, ◌-◌, ◌*◌, ◌/◌, ◌%◌, ◌^◌, ◌≤◌, ◌<◌}
use native.Mathlib.Nat.{le_of_suc-le-suc, not-suc-le-zero, pow-suc, mul_comm, mul_assoc, zero-add, suc-add, suc-sub-suc, mod-eq_of_lt}
use native.Mathlib.Omega.{arith}
use lib.Dec.{eqb}
use lib.ListN.{length, get_or, take, drop, length-take, length-drop, take-append-drop}
use lib.Seq.{drop-drop, length-take-le, take-add}
use borrow.Author.Tests.{eqb-true, eqb-false, eq-eqb, ne_eqb}
use Rattle.numbers.specs.Numbers.{number_at, bytes_of}
use Rattle.numbers.specs.NumberLaws.{number_after, number_past, bytes-later}
use Rattle.kinds.specs.declared.Kind.{Kind}
use Rattle.kinds.specs.Kinds.{allowed, all_nul, all_allowed, agrees_text}
use Rattle.kinds.proofs.KindLaws.{blank_text}
use Rattle.kinds.proofs.Walk.{tail_is}
use Rattle.kinds.proofs.Lanes.{lane_low, lane_up}

-- ---- texts

nul_append : (xs ys : List ℕ) → all_nul (xs ++ ys) ≡ (all_nul xs && all_nul ys)
nul_append [] ys = refl
nul_append (b ∷ xs) ys = ap (λ t. eqb b 0 && t) (nul_append xs ys) ∙ sym (and_assoc (eqb b 0) (all_nul xs) (all_nul ys))

-- the last byte, or d where there is none
last_of : ℕ → List ℕ → ℕ
last_of d [] = d
last_of d (b ∷ xs) = last_of b xs

last_nul : (xs : List ℕ) → all_nul xs ≡ true → last_of 0 xs ≡ 0
unfolding last_of
last_nul [] h = refl
last_nul (b ∷ xs) h = by (eqb b 0) refl h (last_nul xs)
  where
    by : (t : Bool) → eqb b 0 ≡ t → (t && all_nul xs) ≡ true → (all_nul xs ≡ true → last_of 0 xs ≡ 0) → last_of b xs ≡ 0
    by true e k r = ap (λ (c : ℕ). last_of c xs) (eqb-true _ _ e) ∙ r k
    by false e k r = absurd (false≢true k)

-- a text and what follows it: after a NUL all is NUL, and else what follows is a text
text_append : (k : Kind) (d : ℕ) → eqb d 0 ≡ false → (xs ys : List ℕ) → agrees_text k (xs ++ ys) ≡ (agrees_text k xs && cond (eqb (last_of d xs) 0) (all_nul ys) (agrees_text k ys))
unfolding last_of
text_append k d n [] ys = rw n
text_append k d n (b ∷ xs) ys = by (eqb b 0) refl (λ e. text_append k b e xs ys)
  where
    tail : ℕ → Bool
    tail c = cond (eqb (last_of c xs) 0) (all_nul ys) (agrees_text k ys)

    nul : (t : Bool) → all_nul xs ≡ t → (t && all_nul ys) ≡ (t && tail 0)
    nul true e = rw (last_nul xs e)
    nul false e = refl

    by : (t : Bool) → eqb b 0 ≡ t → (eqb b 0 ≡ false → agrees_text k (xs ++ ys) ≡ (agrees_text k xs && tail b))
        → cond t (all_nul (xs ++ ys)) (allowed k b && agrees_text k (xs ++ ys)) ≡ (cond t (all_nul xs) (allowed k b && agrees_text k xs) && tail b)
    by true e r = nul_append xs ys ∙ nul (all_nul xs) refl ∙ ap (λ (c : ℕ). all_nul xs && tail c) (sym (eqb-true b 0 e))
    by false e r = ap (λ t. allowed k b && t) (r e) ∙ sym (and_assoc (allowed k b) (agrees_text k xs) (tail b))

-- NUL after a text changes nothing
text_then_nul : (k : Kind) (xs zs : List ℕ) → all_nul zs ≡ true → agrees_text k (xs ++ zs) ≡ agrees_text k xs
text_then_nul k [] zs h = blank_text k zs h
text_then_nul k (b ∷ xs) zs h = ap₂ (λ s t. cond (eqb b 0) s (allowed k b && t)) (nul_append xs zs ∙ rw h (and-true (all_nul xs))) (text_then_nul k xs zs h)

-- ---- full texts

-- the last byte by its place
last-at : (b : ℕ) (xs : List ℕ) → last_of b xs ≡ get_or (b ∷ xs) (length xs) 0
unfolding last_of
last-at b [] = refl
last-at b (c ∷ xs) = last-at c xs

-- where the last byte is not NUL none is, or the text does not agree
full-after : (k : Kind) → allowed k 0 ≡ false → (d : ℕ) (xs : List ℕ) → eqb (last_of d xs) 0 ≡ false → agrees_text k xs ≡ all_allowed k xs
unfolding last_of
full-after k n d [] h = refl
full-after k n d (b ∷ xs) h = by (eqb b 0) refl (full-after k n b xs h)
  where
    none : b ≡ 0 → (t : Bool) → all_nul xs ≡ t → t ≡ false
    none z true e = absurd (eqb-false (last_of b xs) 0 h (ap (λ (c : ℕ). last_of c xs) z ∙ last_nul xs e))
    none z false e = refl

    by : (t : Bool) → eqb b 0 ≡ t → agrees_text k xs ≡ all_allowed k xs → cond t (all_nul xs) (allowed k b && agrees_text k xs) ≡ (allowed k b && all_allowed k xs)
    by true e r =
        let z : b ≡ 0 = eqb-true b 0 e in
        none z (all_nul xs) refl ∙ sym (ap (λ t. t && all_allowed k xs) (ap (allowed k) z ∙ n))
    by false e r = ap (λ t. allowed k b && t) r

-- a text whose last byte is not NUL agrees exactly where the kind allows all its bytes, NUL being none of those
pub full_text : (k : Kind) → allowed k 0 ≡ false → (s : List ℕ) → (get_or s (length s - 1) 0 ≡ 0 → ⊥) → agrees_text k s ≡ all_allowed k s
unfolding last_of
full_text k n [] h = refl
full_text k n (b ∷ xs) h =
    let e : length (b ∷ xs) - 1 ≡ length xs = omega arith in
    full-after k n 1 (b ∷ xs) (ne_eqb _ _ (λ z. h (ap (λ (i : ℕ). get_or (b ∷ xs) i 0) e ∙ sym (last-at b xs) ∙ z)))

-- ---- windows

twice : (s t : Bool) → (s && t) ≡ (s && (s && t))
twice true t = refl
twice false t = refl

-- bytes that are NUL, and what follows them: NUL as well, or they are no text together
nul_window : (k : Kind) (ys zs : List ℕ) → 0 < length ys → all_nul (ys ++ zs) ≡ (all_nul ys && agrees_text k (ys ++ zs))
nul_window k [] zs h = absurd (not-suc-le-zero h)
nul_window k (y ∷ ys) zs h = by (eqb y 0)
  where
    by : (t : Bool) → (t && all_nul (ys ++ zs)) ≡ ((t && all_nul ys) && cond t (all_nul (ys ++ zs)) (allowed k y && agrees_text k (ys ++ zs)))
    by true = rw (nul_append ys zs) (twice (all_nul ys) (all_nul zs))
    by false = refl

-- a text agrees exactly where two windows on it do that share a byte, one from its start and one up to its end
module _ (k : Kind) (ys zs : List ℕ) (h : 0 < length ys) where
  windows : (xs : List ℕ) → agrees_text k (xs ++ (ys ++ zs)) ≡ (agrees_text k (xs ++ ys) && agrees_text k (ys ++ zs))
  windows [] =
      let e = text_append k 1 refl ys zs in
      e ∙ twice (agrees_text k ys) _ ∙ ap (λ t. agrees_text k ys && t) (sym e)
  windows (b ∷ xs) = ap₂ (λ s t. cond (eqb b 0) s (allowed k b && t)) nul (windows xs) ∙ by (eqb b 0)
    where
      rest : Bool
      rest = agrees_text k (ys ++ zs)

      nul : all_nul (xs ++ (ys ++ zs)) ≡ (all_nul (xs ++ ys) && rest)
      nul =
          nul_append xs (ys ++ zs)
          ∙ ap (λ t. all_nul xs && t) (nul_window k ys zs h)
          ∙ sym (and_assoc (all_nul xs) (all_nul ys) rest)
          ∙ ap (λ t. t && rest) (sym (nul_append xs ys))

      by : (t : Bool) → cond t (all_nul (xs ++ ys) && rest) (allowed k b && (agrees_text k (xs ++ ys) && rest))
          ≡ (cond t (all_nul (xs ++ ys)) (allowed k b && agrees_text k (xs ++ ys)) && rest)
      by true = refl
      by false = sym (and_assoc (allowed k b) (agrees_text k (xs ++ ys)) rest)

-- the same by places: the first m + n bytes, and those from m on
pub two_windows : (k : Kind) (s : List ℕ) (m n : ℕ) → 0 < n → m < length s → agrees_text k s ≡ (agrees_text k (take (m + n) s) && agrees_text k (drop m s))
two_windows k s m n p h =
    let later : List ℕ = drop m s in
    let d : length later ≡ length s - m = length-drop m s in
    let l : 0 < length (take n later) = simp length-take (omega arith) in
    let e : take n later ++ drop n later ≡ later = take-append-drop n later in
    ap (agrees_text k) (sym (ap (λ (l : List ℕ). take m s ++ l) e ∙ take-append-drop m s))
    ∙ windows k (take n later) (drop n later) l (take m s)
    ∙ ap₂ (λ (x y : List ℕ). agrees_text k x && agrees_text k y) (sym (take-add m n s)) e

-- NUL from m on changes nothing
pub nul_from : (k : Kind) (s : List ℕ) (m : ℕ) → all_nul (drop m s) ≡ true → agrees_text k s ≡ agrees_text k (take m s)
nul_from k s m h = ap (agrees_text k) (sym (take-append-drop m s)) ∙ text_then_nul k (take m s) (drop m s) h

-- ---- words

-- the bytes of a number whose upper part stands above m bytes
pub bytes_join : (m n a b : ℕ) → a < 256 ^ m → bytes_of (m + n) (a + 256 ^ m * b) ≡ bytes_of m a ++ bytes_of n b
bytes_join zero n a b h =
    let e : a + 256 ^ 0 * b ≡ b = omega arith in
    rw (zero-add n, e)
bytes_join (suc m) n a b h =
    let h' : a < 256 ^ m * 256 = rw (pow-suc 256 m) at h in
    let e : 256 ^ suc m * b ≡ 256 * (256 ^ m * b) = rw (pow-suc 256 m, mul_comm (256 ^ m) 256) (mul_assoc 256 (256 ^ m) b) in
    let low : (a + 256 ^ suc m * b) % 256 ≡ a % 256 = omega arith in
    let up : (a + 256 ^ suc m * b) / 256 ≡ a / 256 + 256 ^ m * b = omega arith in
    rw (suc-add m n) (ap₂ (λ (x y : ℕ). x ∷ bytes_of (m + n) y) low up ∙ ap (λ (l : List ℕ). a % 256 ∷ l) (bytes_join m n (a / 256) b (omega arith)))

-- a number of n bytes is zero where all of them are NUL
pub nul_word : (n x : ℕ) → x < 256 ^ n → all_nul (bytes_of n x) ≡ eqb x 0
nul_word zero x h = sym (eq-eqb x 0 (omega arith))
nul_word (suc n) x h =
    let h' : x < 256 ^ n * 256 = rw (pow-suc 256 n) at h in
    ap (λ t. eqb (x % 256) 0 && t) (nul_word n (x / 256) (omega arith)) ∙ by (eqb (x % 256) 0) (eqb (x / 256) 0) refl refl
  where
    by : (s t : Bool) → eqb (x % 256) 0 ≡ s → eqb (x / 256) 0 ≡ t → (s && t) ≡ eqb x 0
    by true true e f =
        let a : x % 256 ≡ 0 = eqb-true _ _ e in
        let b : x / 256 ≡ 0 = eqb-true _ _ f in
        sym (eq-eqb x 0 (omega arith))
    by true false e f = sym (ne_eqb x 0 (λ (z : x ≡ 0). eqb-false (x / 256) 0 f (omega arith)))
    by false t e f = sym (ne_eqb x 0 (λ (z : x ≡ 0). eqb-false (x % 256) 0 e (omega arith)))

zeros_nul : (n : ℕ) → all_nul (bytes_of n 0) ≡ true
zeros_nul zero = refl
zeros_nul (suc n) = zeros_nul n

-- a word and what follows it: a word below 256 to the 7th ends with NUL
module _ (k : Kind) (x : ℕ) (ys : List ℕ) where
  pub word-ends : x < 0x100000000000000 → agrees_text k (bytes_of 8 x ++ ys) ≡ (agrees_text k (bytes_of 8 x) && all_nul ys)
  unfolding last_of
  word-ends h =
      let e = eq-eqb (x / 256 / 256 / 256 / 256 / 256 / 256 / 256 % 256) 0 (omega arith) in
      text_append k 1 refl (bytes_of 8 x) ys ∙ ap (λ t. agrees_text k (bytes_of 8 x) && cond t (all_nul ys) (agrees_text k ys)) e

  pub word_goes_on : 0x100000000000000 ≤ x → x < 18446744073709551616 → agrees_text k (bytes_of 8 x ++ ys) ≡ (agrees_text k (bytes_of 8 x) && agrees_text k ys)
  unfolding last_of
  word_goes_on h l =
      let e = ne_eqb (x / 256 / 256 / 256 / 256 / 256 / 256 / 256 % 256) 0 (λ (z : x / 256 / 256 / 256 / 256 / 256 / 256 / 256 % 256 ≡ 0). omega arith) in
      text_append k 1 refl (bytes_of 8 x) ys ∙ ap (λ t. agrees_text k (bytes_of 8 x) && cond t (all_nul ys) (agrees_text k ys)) e

-- the bytes of the number of at most n bytes are they, and NUL
padded : (n : ℕ) (s : List ℕ) → length s ≤ n → ((i : ℕ) → get_or s i 0 < 256) → bytes_of n (number_at n 0 s) ≡ s ++ bytes_of (n - length s) 0
padded n [] h bs = ap (bytes_of n) (number_past n 0 [] (omega arith)) ∙ (let e : n - 0 ≡ n = omega arith in rw e)
padded zero (b ∷ s) h bs = absurd (not-suc-le-zero h)
padded (suc n) (b ∷ s) h bs =
    let e : number_at n 1 (b ∷ s) ≡ number_at n 0 s = number_after n 0 (b ∷ []) s in
    let l : b < 256 = bs 0 in
    let low : (b + 256 * number_at n 1 (b ∷ s)) % 256 ≡ b = omega arith in
    let up : (b + 256 * number_at n 1 (b ∷ s)) / 256 ≡ number_at n 0 s = omega arith in
    rw (suc-sub-suc n (length s))
    (ap₂ (λ (x y : ℕ). x ∷ bytes_of n y) low up ∙ ap (λ (x : List ℕ). b ∷ x) (padded n s (le_of_suc-le-suc h) (λ i. bs (suc i))))

-- bytes that a word holds whole agree as the word's bytes do
pub word_of : (k : Kind) (s : List ℕ) → length s ≤ 8 → ((i : ℕ) → get_or s i 0 < 256) → agrees_text k (bytes_of 8 (number_at 8 0 s)) ≡ agrees_text k s
word_of k s h bs = ap (agrees_text k) (padded 8 s h bs) ∙ text_then_nul k s _ (zeros_nul (8 - length s))

-- ---- the word at a place of a field

-- the rest of a field, of fewer than eight bytes, is tested as the word at its place
pub rest_is : (k : Kind) (s : List ℕ) (i : ℕ) → i ≤ length s → length s - i < 8 → ((j : ℕ) → get_or s j 0 < 256) → agrees_text k (bytes_of 8 (number_at 8 i s)) ≡ agrees_text k (drop i s)
rest_is k s i h l bs =
    let e : length (take i s) + 0 ≡ i = omega (arith, length-take-le i s h) in
    let d : length (drop i s) ≡ length s - i = length-drop i s in
    let there : number_at 8 i s ≡ number_at 8 0 (drop i s) =
    ap₂ (λ (j : ℕ) (l : List ℕ). number_at 8 j l) (sym e) (sym (take-append-drop i s)) ∙ number_after 8 0 (take i s) (drop i s) in
    ap (λ (x : ℕ). agrees_text k (bytes_of 8 x)) there ∙ word_of k (drop i s) (omega arith) (bytes-later i s bs)

-- ---- four bytes

four : (s : List ℕ) → 4 ≤ length s → take 4 s ≡ get_or s 0 0 ∷ get_or s 1 0 ∷ get_or s 2 0 ∷ get_or s 3 0 ∷ []
four [] h = absurd (omega arith)
four (a ∷ []) h = absurd (omega arith)
four (a ∷ b ∷ []) h = absurd (omega arith)
four (a ∷ b ∷ c ∷ []) h = absurd (omega arith)
four (a ∷ b ∷ c ∷ d ∷ s) h = refl

-- the number of four bytes
pub four_bytes : (s : List ℕ) → 4 ≤ length s → (a b c d : ℕ) → (a ≡ get_or s 0 0) × (a < 256) → (b ≡ get_or s 1 0) × (b < 256) → (c ≡ get_or s 2 0) × (c < 256)
    → (d ≡ get_or s 3 0) × (d < 256) → bytes_of 4 (a + 256 * b + 65536 * c + 16777216 * d) ≡ take 4 s
four_bytes s h a b c d ea eb ec ed =
    let n2 : ℕ = c + 256 * d in
    let n1 : ℕ = b + 256 * n2 in
    let e : a + 256 * b + 65536 * c + 16777216 * d ≡ a + 256 * n1 = omega arith in
    rw (e, lane_low a n1 ea.1, lane_up a n1 ea.1, lane_low b n2 eb.1, lane_up b n2 eb.1, lane_low c d ec.1, lane_up c d ec.1, mod-eq_of_lt ed.1)
    (ap₂ (λ (x y : ℕ). x ∷ y ∷ c ∷ d ∷ []) ea.0 eb.0 ∙ ap₂ (λ (x y : ℕ). get_or s 0 0 ∷ get_or s 1 0 ∷ x ∷ y ∷ []) ec.0 ed.0 ∙ sym (four s h))

-- four bytes agree as a word of them does, which has NUL above
pub half_is : (k : Kind) (x : ℕ) → x < 4294967296 → agrees_text k (bytes_of 8 x) ≡ agrees_text k (bytes_of 4 x)
half_is k x h =
    let e : x + 256 ^ 4 * 0 ≡ x = omega arith in
    ap (agrees_text k) (rw e at (bytes_join 4 4 x 0 h)) ∙ text_then_nul k (bytes_of 4 x) (bytes_of 4 0) (zeros_nul 4)
