-- What is true of a question's words: what one byte more of a line, of a number or of hex digits does. Assumes nothing.
use Rattle.std.specs.Prelude.{◌≡◌, refl, Bool, true, false, ◌&&◌, ◌||◌, ◌⊎◌, ℕ, zero, suc, ◌+◌, ◌-◌, ◌*◌, ◌/◌, ◌%◌, ◌≤◌, ◌<◌, cond, eqb, leb, length, take, drop, Option, Some, None}
use Rattle.std.proofs.Common.{sym, ap₂, ◌∙◌, true≢false, inl, inr, ⊎_elim, add-one, arith, length-drop, drop-cons, take_all, eq-eqb, ne_eqb, le-leb, leb-true}
use Rattle.std.proofs.Math.Path.{ap}
use mathlib.Core.List.{List, [], ◌∷◌}
use Rattle.std.proofs.Math.ListN.{get_or}
use Rattle.std.proofs.lemmas.Bool.{lt-leb}
use Rattle.std.specs.Bool.{then_some}
use Rattle.std.specs.List.{slice_split, onto_first, list_all, slice_get}
use Rattle.std.proofs.lemmas.Option.{get_or_from_slice_get, unwrap_or-slice_get}
use Rattle.std.specs.Option.{unwrap_or}
use Rattle.asking.specs.Words.{cut, words_of, word_of, is_digit, all_digits, decimal_from, is_number, number_of, is_hex, nibble_of, all_hex, bytes_in, is_bytes, fits}

-- what is left at a place is its byte and what is left after it
pub next_byte : (s : List ℕ) (i : ℕ) → i < length s → drop i s ≡ get_or s i 0 ∷ drop (i + 1) s
next_byte s i h = rw (add-one, drop-cons s i 0)

-- ---- words

space_first : (b : ℕ) (s : List ℕ) → b ≡ 32 → words_of (b ∷ s) ≡ [] ∷ words_of s
unfolding words_of
space_first b s e = rw (eq-eqb b 32 e)

other-first : (b : ℕ) (s : List ℕ) → (b ≡ 32 → ⊥) → words_of (b ∷ s) ≡ cut false b (words_of s)
unfolding words_of
other-first b s n = rw (ne_eqb b 32 n)

some_word : (s : List ℕ) → 1 ≤ length (words_of s)
unfolding words_of
some_word [] = omega arith
some_word (b ∷ s) = by (eqb b 32) (words_of s)
  where
    by : (t : Bool) (ws : List (List ℕ)) → 1 ≤ length (cut t b ws)
    by true ws = omega arith
    by false [] = omega arith
    by false (w ∷ ws) = omega arith

module _ (b : ℕ) where
  as_many : (ws : List (List ℕ)) → 1 ≤ length ws → length (cut false b ws) ≡ length ws
  as_many [] h = absurd (omega (arith, h))
  as_many (w ∷ ws) h = refl

  first-longer : (ws : List (List ℕ)) → get_or (cut false b ws) 0 [] ≡ b ∷ get_or ws 0 []
  first-longer [] = refl
  first-longer (w ∷ ws) = refl

  later_same : (ws : List (List ℕ)) (k : ℕ) → 0 < k → get_or (cut false b ws) k [] ≡ get_or ws k []
  later_same ws zero h = absurd (omega (arith, h))
  later_same [] (suc k) h = refl
  later_same (w ∷ ws) (suc k) h = refl

-- they are the parts of a split at each space
pub words_are_parts : (s : List ℕ) → words_of s ≡ slice_split (λ (b : ℕ). eqb b 32) s
unfolding words_of
words_are_parts [] = refl
words_are_parts (b ∷ s) = by (eqb b 32) (words_of s) (slice_split (λ (x : ℕ). eqb x 32) s) (words_are_parts s)
  where
    by : (t : Bool) (ws parts : List (List ℕ)) → ws ≡ parts → cut t b ws ≡ cond t ([] ∷ parts) (onto_first b parts)
    by true ws parts e = ap (λ (l : List (List ℕ)). [] ∷ l) e
    by false ws parts e = rw e (onto parts)
      where
        onto : (l : List (List ℕ)) → cut false b l ≡ onto_first b l
        onto [] = refl
        onto (w ∷ l) = refl

-- a part of the split is a word, and where it has no such part the word is empty
pub found_word : (line : List ℕ) (k : ℕ) (w : List ℕ) → Some w ≡ slice_get (slice_split (λ (b : ℕ). eqb b 32) line) k → w ≡ word_of k line
unfolding word_of
found_word line k w e = sym (get_or_from_slice_get (words_of line) k w [] (ap (λ (ws : List (List ℕ)). slice_get ws k) (words_are_parts line) ∙ sym e))

pub no_such_word : (line : List ℕ) (k : ℕ) → None ≡ slice_get (slice_split (λ (b : ℕ). eqb b 32) line) k → [] ≡ word_of k line
unfolding word_of
no_such_word line k e =
    ap (λ (o : Option (List ℕ)). unwrap_or o []) (e ∙ sym (ap (λ (ws : List (List ℕ)). slice_get ws k) (words_are_parts line)))
    ∙ unwrap_or-slice_get (words_of line) k []

pub no_more_words : length (words_of []) ≡ 1
unfolding words_of
no_more_words = refl

-- no word is left where nothing is
pub nothing_left : (k : ℕ) → word_of k [] ≡ []
unfolding word_of words_of
nothing_left zero = refl
nothing_left (suc k) = refl

-- a space begins one word more, which is the next one
module _ (s : List ℕ) (i : ℕ) (h : i < length s) (e : get_or s i 0 ≡ 32) where
  at_space : words_of (drop i s) ≡ [] ∷ words_of (drop (i + 1) s)
  at_space = ap words_of (next_byte s i h) ∙ space_first (get_or s i 0) (drop (i + 1) s) e

  pub space_counts : length (words_of (drop i s)) ≡ suc (length (words_of (drop (i + 1) s)))
  space_counts = ap length at_space

  pub space_ends : word_of 0 (drop i s) ≡ []
  unfolding word_of
  space_ends = ap (λ (ws : List (List ℕ)). get_or ws 0 []) at_space

  pub space_passed : (k : ℕ) → word_of (k + 1) (drop i s) ≡ word_of k (drop (i + 1) s)
  unfolding word_of
  space_passed k = ap (λ (n : ℕ). get_or (words_of (drop i s)) n []) (add-one k) ∙ ap (λ (ws : List (List ℕ)). get_or ws (suc k) []) at_space

-- any other byte belongs to the first of the words that follow
module _ (s : List ℕ) (i : ℕ) (h : i < length s) (n : get_or s i 0 ≡ 32 → ⊥) where
  at_other : words_of (drop i s) ≡ cut false (get_or s i 0) (words_of (drop (i + 1) s))
  at_other = ap words_of (next_byte s i h) ∙ other-first (get_or s i 0) (drop (i + 1) s) n

  pub other_counts : length (words_of (drop i s)) ≡ length (words_of (drop (i + 1) s))
  other_counts = ap length at_other ∙ as_many (get_or s i 0) (words_of (drop (i + 1) s)) (some_word (drop (i + 1) s))

  pub other_goes_on : word_of 0 (drop i s) ≡ get_or s i 0 ∷ word_of 0 (drop (i + 1) s)
  unfolding word_of
  other_goes_on = ap (λ (ws : List (List ℕ)). get_or ws 0 []) at_other ∙ first-longer (get_or s i 0) (words_of (drop (i + 1) s))

  pub other_passed : (k : ℕ) → 0 < k → word_of k (drop i s) ≡ word_of k (drop (i + 1) s)
  unfolding word_of
  other_passed k l = ap (λ (ws : List (List ℕ)). get_or ws k []) at_other ∙ later_same (get_or s i 0) (words_of (drop (i + 1) s)) k l

-- the first word stands in front
pub word_in_front : (s : List ℕ) → (length (word_of 0 s) ≤ length s) × (take (length (word_of 0 s)) s ≡ word_of 0 s)
unfolding word_of words_of
word_in_front [] = (omega arith, refl)
word_in_front (b ∷ s) = by (eqb b 32) (words_of s) (word_in_front s)
  where
    by : (t : Bool) (ws : List (List ℕ)) → (length (get_or ws 0 []) ≤ length s) × (take (length (get_or ws 0 [])) s ≡ get_or ws 0 [])
        → (length (get_or (cut t b ws) 0 []) ≤ suc (length s)) × (take (length (get_or (cut t b ws) 0 [])) (b ∷ s) ≡ get_or (cut t b ws) 0 [])
    by true ws p = (omega arith, refl)
    by false [] p = (omega arith, refl)
    by false (w ∷ ws) p = (omega (arith, p.0), ap (λ (l : List ℕ). b ∷ l) p.1)

-- the first word of the tail from a place on, as long as it was told to be
pub word_from : (s : List ℕ) (at n : ℕ) → at ≤ length s → n ≡ length (word_of 0 (take (length s - at) (drop at s)))
    → (at + n ≤ length s) × (take (at + n - at) (drop at s) ≡ word_of 0 (drop at s))
word_from s at n h e =
    let left : length (drop at s) ≡ length s - at = length-drop at s in
    let long : n ≡ length (word_of 0 (drop at s)) = e ∙ ap (λ (l : List ℕ). length (word_of 0 l)) (take_all (length s - at) (drop at s) (omega arith)) in
    let front = word_in_front (drop at s) in
    let same : at + n - at ≡ length (word_of 0 (drop at s)) = omega arith in
    (omega (arith, front.0), ap (λ (k : ℕ). take k (drop at s)) same ∙ front.1)

-- ---- numbers

-- the answer that digits after the number v give
unfoldable pub number_from : ℕ → ℕ → List ℕ → Option ℕ
number_from most v s = then_some (all_digits s && leb (decimal_from v s) most) (decimal_from v s)

-- digits do not make a number less
pub not_less : (s : List ℕ) (v : ℕ) → v ≤ decimal_from v s
unfolding decimal_from
not_less [] v = omega arith
not_less (b ∷ s) v = omega (arith, not_less s (v * 10 + (b - 48)))

never : (a : Bool) → (a && false) ≡ false
never true = refl
never false = refl

-- one to twenty digits are read from 0 on
pub reading_begins : (w : List ℕ) (most : ℕ) → 1 ≤ length w → length w ≤ 20 → number_from most 0 w ≡ number_of w most
unfolding number_from number_of is_number
reading_begins w most h l = rw (le-leb _ _ h, le-leb _ _ l)

pub too_short : (w : List ℕ) (most : ℕ) → length w ≡ 0 → number_of w most ≡ None
unfolding number_of is_number
too_short w most h = rw (lt-leb 1 (length w) (omega arith))

pub too_long : (w : List ℕ) (most : ℕ) → 20 < length w → number_of w most ≡ None
unfolding number_of is_number
too_long w most h = rw (le-leb 1 (length w) (omega arith), lt-leb (length w) 20 h)

module _ (most v : ℕ) (w : List ℕ) (i : ℕ) (h : i < length w) where
  -- one digit more
  pub digit_read : is_digit (get_or w i 0) ≡ true → number_from most v (drop i w) ≡ number_from most (v * 10 + (get_or w i 0 - 48)) (drop (i + 1) w)
  unfolding number_from all_digits decimal_from
  digit_read e = ap (number_from most v) (next_byte w i h) ∙ rw e

  -- what is no digit
  pub no_digit : is_digit (get_or w i 0) ≡ false → number_from most v (drop i w) ≡ None
  unfolding number_from all_digits decimal_from
  no_digit e = ap (number_from most v) (next_byte w i h) ∙ rw e

-- a number that is too great stays so
pub too_great : (most v : ℕ) (s : List ℕ) → most < v → number_from most v s ≡ None
unfolding number_from
too_great most v s h = rw (lt-leb (decimal_from v s) most (omega (arith, not_less s v)), never)

-- all digits are read: the number is told where it is not too great
pub all_read : (most v : ℕ) → then_some (leb v most) v ≡ number_from most v []
unfolding number_from all_digits decimal_from
all_read most v = refl

-- ---- bytes

pub hex_read : (w : List ℕ) (i : ℕ) → i < length w → is_hex (get_or w i 0) ≡ true → all_hex (drop i w) ≡ all_hex (drop (i + 1) w)
unfolding all_hex
hex_read w i h e = ap all_hex (next_byte w i h) ∙ rw e

pub no_hex : (w : List ℕ) (i : ℕ) → i < length w → is_hex (get_or w i 0) ≡ false → all_hex (drop i w) ≡ false
unfolding all_hex
no_hex w i h e = ap all_hex (next_byte w i h) ∙ rw e

-- hex digits alone are what std's word for all of a list says
pub all_hex_listed : (w : List ℕ) → all_hex w ≡ list_all (λ (b : ℕ). is_hex b) w
unfolding all_hex
all_hex_listed [] = refl
all_hex_listed (b ∷ w) = ap (λ (t : Bool). is_hex b && t) (all_hex_listed w)

pub all_hex_read : all_hex [] ≡ true
unfolding all_hex
all_hex_read = refl

-- a hex digit is one of the ten or one of the six
digit_range : (b : ℕ) → is_digit b ≡ true → (48 ≤ b) × (b ≤ 57)
digit_range b e = by (leb 48 b) refl (leb b 57) refl e
  where
    by : (x : Bool) → leb 48 b ≡ x → (y : Bool) → leb b 57 ≡ y → (x && y) ≡ true → (48 ≤ b) × (b ≤ 57)
    by true p true q z = (leb-true 48 b p, leb-true b 57 q)
    by true p false q z = absurd (true≢false (sym z))
    by false p y q z = absurd (true≢false (sym z))

pub digit_from : (b : ℕ) → is_digit b ≡ true → 48 ≤ b
digit_from b e = (digit_range b e).0

hex_range : (b : ℕ) → is_hex b ≡ true → ((48 ≤ b) × (b ≤ 57)) ⊎ ((65 ≤ b) × (b ≤ 70))
hex_range b e = by (is_digit b) refl (leb 65 b) refl (leb b 70) refl e
  where
    by : (x : Bool) → is_digit b ≡ x → (y : Bool) → leb 65 b ≡ y → (z : Bool) → leb b 70 ≡ z → (x || (y && z)) ≡ true → ((48 ≤ b) × (b ≤ 57)) ⊎ ((65 ≤ b) × (b ≤ 70))
    by true p y q z r h = inl (digit_range b p)
    by false p true q true r h = inr (leb-true 65 b q, leb-true b 70 r)
    by false p true q false r h = absurd (true≢false (sym h))
    by false p false q z r h = absurd (true≢false (sym h))

-- what each of them counts
pub figure : (b : ℕ) → is_hex b ≡ true → b ≤ 57 → (48 ≤ b) × (b - 48 ≡ nibble_of b) × (b - 48 < 16)
figure b e h =
    let l : 48 ≤ b = ⊎_elim (λ (w : (48 ≤ b) × (b ≤ 57)). w.0) (λ (w : (65 ≤ b) × (b ≤ 70)). omega (arith, w.0)) (hex_range b e) in
    (l, rw (e, le-leb b 57 h), omega arith)

pub letter : (b : ℕ) → is_hex b ≡ true → 57 < b → (65 ≤ b) × (b - 65 + 10 ≡ nibble_of b) × (b - 65 + 10 < 16)
letter b e h =
    let l : (65 ≤ b) × (b ≤ 70) = ⊎_elim (λ (w : (48 ≤ b) × (b ≤ 57)). absurd (omega (arith, w.1))) (λ (w : (65 ≤ b) × (b ≤ 70)). w) (hex_range b e) in
    (l.0, rw (e, lt-leb b 57 h) (omega (arith, l.0)), omega (arith, l.1))

pub no_figure : (b : ℕ) → is_hex b ≡ false → 0 ≡ nibble_of b
no_figure b e = rw e

-- two digits a byte
pub bytes-length : (w : List ℕ) → length (bytes_in w) ≡ length w / 2
unfolding bytes_in
bytes-length [] = refl
bytes-length (h ∷ []) = omega arith
bytes-length (h ∷ l ∷ s) = omega (arith, bytes-length s)

-- a byte is that of its pair
pub byte_of_pair : (w : List ℕ) (i : ℕ) → i < length w / 2 → get_or (bytes_in w) i 0 ≡ nibble_of (get_or w (2 * i) 0) * 16 + nibble_of (get_or w (2 * i + 1) 0)
unfolding bytes_in
byte_of_pair [] i h = absurd (omega (arith, h))
byte_of_pair (a ∷ []) i h = absurd (omega (arith, h))
byte_of_pair (a ∷ b ∷ s) zero h = refl
byte_of_pair (a ∷ b ∷ s) (suc i) h =
    let x : 2 * suc i ≡ suc (suc (2 * i)) = omega arith in
    let y : 2 * suc i + 1 ≡ suc (suc (2 * i + 1)) = omega arith in
    byte_of_pair s i (omega (arith, h))
    ∙ ap₂ (λ (m n : ℕ). nibble_of (get_or (a ∷ b ∷ s) m 0) * 16 + nibble_of (get_or (a ∷ b ∷ s) n 0)) (sym x) (sym y)

-- the word's own tests, as the code makes them
pub empty-word : (w : List ℕ) → length w ≡ 0 → is_bytes w ≡ false
unfolding is_bytes
empty-word w e = rw (ne_eqb (length w) 1 (λ h. omega arith), lt-leb 1 (length w) (omega arith))

pub one_byte_word : (w : List ℕ) → length w ≡ 1 → is_bytes w ≡ eqb (get_or w 0 0) 45
unfolding is_bytes
one_byte_word w e = rw (eq-eqb (length w) 1 e, le-leb 1 (length w) (omega arith), ne_eqb (length w % 2) 0 (λ h. omega arith)) (by (eqb (get_or w 0 0) 45))
  where
    by : (b : Bool) → ((true && b) || (true && (false && all_hex w))) ≡ b
    by true = refl
    by false = refl

pub odd_word : (w : List ℕ) → 2 ≤ length w → length w % 2 ≡ 1 → is_bytes w ≡ false
unfolding is_bytes
odd_word w h e = rw (ne_eqb (length w) 1 (λ x. omega arith), le-leb 1 (length w) (omega arith), ne_eqb (length w % 2) 0 (λ x. omega arith))

pub even_word : (w : List ℕ) → 2 ≤ length w → length w % 2 ≡ 0 → is_bytes w ≡ all_hex w
unfolding is_bytes
even_word w h e = rw (ne_eqb (length w) 1 (λ x. omega arith), le-leb 1 (length w) (omega arith), eq-eqb (length w % 2) 0 e)

-- what refuses a word, as the code tests it
pub not-bytes : (w : List ℕ) (room : ℕ) → is_bytes w ≡ false → fits w room ≡ false
unfolding fits
not-bytes w room e = rw e

pub no_room : (w : List ℕ) (room : ℕ) → room < length w / 2 → fits w room ≡ false
unfolding fits
no_room w room h = rw (lt-leb (length w / 2) room h, never)
