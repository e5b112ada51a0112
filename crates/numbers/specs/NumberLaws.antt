-- What is true of numbers in a buffer, at every width. Assumes nothing.
use Rattle.std.specs.Prelude.{◌≡◌, Bool}
use Rattle.std.proofs.Math.Path.{refl, sym, ap}
use Rattle.std.proofs.Common.{ap₂, ◌∙◌, le_of_suc-le-suc, not-suc-le-zero, suc-add, zero-add, pow-suc, mul-add, mul_comm, mul_assoc, take-append-drop, drop_of_length-le, drop_at, le-leb, leb-true}
use Rattle.std.proofs.Math.Bool.{true, false, cond}
use mathlib.Core.List.{List, [], ◌∷◌, ◌++◌, append_assoc, append-nil}
use Prim.Native.Nat.{ℕ, zero, suc, ◌+◌, ◌-◌, ◌*◌, ◌/◌, ◌%◌, ◌^◌, ◌≤◌, ◌<◌}
use Rattle.std.proofs.Math.Nat.{pow-zero}
use native.Mathlib.Omega.{arith}
use Rattle.std.proofs.Math.ListN.{length, get_or, take, drop, length-append, length-drop, get_or-eq_default, get_or-append}
use Rattle.std.proofs.Math.Dec.{leb}
use Rattle.std.proofs.Math.Seq.{get_or-append-add, get_or-take, get_or-drop, take_at, drop-drop, drop-append-add, length-take-le}
use Rattle.std.proofs.lemmas.List.Edits.{sets, sets-eq}
use Rattle.std.proofs.lemmas.Bool.{lt-leb}
use Rattle.refusals.specs.Names.{no_room}
use Rattle.numbers.specs.Numbers.{number_at, bytes_of, patched, put_refusal, put_buffer}

-- ---- numbers and their bytes

-- a number's bytes are as many as its width
pub length-bytes_of : (n v : ℕ) → length (bytes_of n v) ≡ n
length-bytes_of zero v = refl
length-bytes_of (suc n) v = ap suc (length-bytes_of n (v / 256))

shift : (n i b : ℕ) (s : List ℕ) → number_at n (suc i) (b ∷ s) ≡ number_at n i s
shift zero i b s = refl
shift (suc n) i b s = ap (λ (x : ℕ). get_or s i 0 + 256 * x) (rw (suc-add i 1) (shift n (i + 1) b s))

-- a number that fits its width, written and read with any bytes after it, is the number
pub number_back : (n v : ℕ) (t : List ℕ) → v < 256 ^ n → number_at n 0 (bytes_of n v ++ t) ≡ v
number_back zero v t h = omega arith
number_back (suc n) v t h =
    let h' : v < 256 ^ n * 256 = rw (pow-suc 256 n) at h in
    let q : v / 256 < 256 ^ n = omega arith in
    ap (λ (x : ℕ). v % 256 + 256 * x) (shift n 0 (v % 256) (bytes_of n (v / 256) ++ t) ∙ number_back n (v / 256) t q) ∙ omega arith

-- bytes that are read as a number are written again as the same bytes
pub bytes_back : (n : ℕ) (s : List ℕ) → n ≤ length s → ((i : ℕ) → get_or s i 0 < 256) → bytes_of n (number_at n 0 s) ≡ take n s
bytes_back zero s h k = refl
bytes_back (suc n) [] h k = absurd (not-suc-le-zero h)
bytes_back (suc n) (b ∷ s) h k =
    let e : number_at n 1 (b ∷ s) ≡ number_at n 0 s = shift n 0 b s in
    let l : b < 256 = k 0 in
    let low : (b + 256 * number_at n 1 (b ∷ s)) % 256 ≡ b = omega arith in
    let high : (b + 256 * number_at n 1 (b ∷ s)) / 256 ≡ number_at n 0 s = omega arith in
    ap₂ (λ (x y : ℕ). x ∷ bytes_of n y) low high ∙ ap (λ (x : List ℕ). b ∷ x) (bytes_back n s (le_of_suc-le-suc h) (λ i. k (suc i)))

-- a number of bytes fits its width
pub number_fits : (n i : ℕ) (s : List ℕ) → ((j : ℕ) → get_or s j 0 < 256) → number_at n i s < 256 ^ n
number_fits zero i s k = omega arith
number_fits (suc n) i s k =
    let h : number_at n (i + 1) s < 256 ^ n = number_fits n (i + 1) s k in
    let b : get_or s i 0 < 256 = k i in
    rw (pow-suc 256 n) (omega arith)

-- past the end there is nothing but zero
pub number_past : (n i : ℕ) (s : List ℕ) → length s ≤ i → number_at n i s ≡ 0
number_past zero i s h = refl
number_past (suc n) i s h =
    let e : get_or s i 0 ≡ 0 = get_or-eq_default s 0 h in
    let r : number_at n (i + 1) s ≡ 0 = number_past n (i + 1) s (omega arith) in
    omega arith

-- a number of m + n bytes is its m lower bytes and its n upper ones
pub number_split : (m n i : ℕ) (s : List ℕ) → number_at (m + n) i s ≡ number_at m i s + 256 ^ m * number_at n (i + m) s
number_split zero n i s =
    let e : i + 0 ≡ i = omega arith in
    rw (zero-add n, e, pow-zero 256) (omega arith)
number_split (suc m) n i s =
    let e : i + suc m ≡ i + 1 + m = omega arith in
    rw (suc-add m n, e, number_split m n (i + 1) s, pow-suc 256 m)
    (sum_of (256 ^ m) (get_or s i 0) (number_at m (i + 1) s) (number_at n (i + 1 + m) s))
  where
    sum_of : (p a b c : ℕ) → a + 256 * (b + p * c) ≡ a + 256 * b + p * 256 * c
    sum_of p a b c = rw (mul-add 256 b (p * c), mul_comm p 256, mul_assoc 256 p c) (omega arith)

-- ---- parts of bytes

-- the first of bytes are bytes
pub bytes-first : (n : ℕ) (s : List ℕ) → ((i : ℕ) → get_or s i 0 < 256) → (i : ℕ) → get_or (take n s) i 0 < 256
bytes-first zero s bs i = omega arith
bytes-first (suc n) [] bs i = omega arith
bytes-first (suc n) (x ∷ s) bs zero = bs 0
bytes-first (suc n) (x ∷ s) bs (suc i) = bytes-first n s (λ j. bs (suc j)) i

-- and so are the later ones
pub bytes-later : (k : ℕ) (s : List ℕ) → ((i : ℕ) → get_or s i 0 < 256) → (i : ℕ) → get_or (drop k s) i 0 < 256
bytes-later k s bs i = rw (get_or-drop k s i 0) (bs (k + i))

-- ---- bytes put into a buffer

module _ (xs : List ℕ) (i : ℕ) (a : List ℕ) (fits : i + length a ≤ length xs) where
  head_length : length (take i xs ++ a) ≡ i + length a
  head_length = simp (length-append, length-take-le i xs (omega arith))

  pub patched-length : length (patched xs i a) ≡ length xs
  unfolding patched
  patched-length = simp (length-append, length-drop, length-take-le i xs (omega arith)) (omega arith)

  -- two runs, the second right after the first, are one run
  pub patched_join : (b : List ℕ) → patched (patched xs i a) (i + length a) b ≡ patched xs i (a ++ b)
  unfolding patched
  patched_join b =
      let h : length (take i xs ++ a) ≡ i + length a = head_length in
      let d = drop (i + length a) xs in
      let e0 : take i xs ++ (a ++ d) ≡ (take i xs ++ a) ++ d = sym (append_assoc (take i xs) a d) in
      let e1 : take (i + length a) (take i xs ++ (a ++ d)) ≡ take i xs ++ a = ap (take (i + length a)) e0 ∙ take_at (take i xs ++ a) d (i + length a) h in
      let e2 : drop (i + length a + length b) (take i xs ++ (a ++ d)) ≡ drop (length b) d =
      ap (drop (i + length a + length b)) e0
      ∙ ap (λ (n : ℕ). drop (n + length b) ((take i xs ++ a) ++ d)) (sym h)
      ∙ drop-append-add (take i xs ++ a) d (length b) in
      let e3 : drop (length b) d ≡ drop (i + length (a ++ b)) xs =
      (let k : i + length a + length b ≡ i + length (a ++ b) = simp length-append (omega arith) in
      drop-drop (length b) (i + length a) xs ∙ ap (λ (n : ℕ). drop n xs) k) in
      ap (λ (l : List ℕ). l ++ (b ++ drop (i + length a + length b) (take i xs ++ (a ++ d)))) e1
      ∙ ap (λ (l : List ℕ). (take i xs ++ a) ++ (b ++ l)) (e2 ∙ e3)
      ∙ append_assoc (take i xs) a (b ++ drop (i + length (a ++ b)) xs)
      ∙ ap (λ (l : List ℕ). take i xs ++ l) (sym (append_assoc a b (drop (i + length (a ++ b)) xs)))

  -- a buffer up to the run's end
  pub patched-take : take (i + length a) (patched xs i a) ≡ take i xs ++ a
  unfolding patched
  patched-take =
      ap (take (i + length a)) (sym (append_assoc (take i xs) a (drop (i + length a) xs)))
      ∙ take_at (take i xs ++ a) (drop (i + length a) xs) (i + length a) head_length

-- bytes that are put are there
pub put_is_there : (xs : List ℕ) (p : ℕ) (bs : List ℕ) (w : ℕ) → length bs ≡ w → p + length bs ≤ length xs → take w (drop p (patched xs p bs)) ≡ bs
unfolding patched
put_is_there xs p bs w l h =
    ap (take w) (drop_at (take p xs) (bs ++ drop (p + length bs) xs) p (length-take-le p xs (omega arith))) ∙ take_at bs (drop (p + length bs) xs) w l

-- stores one after the other are a run
pub stores_are : (bs xs : List ℕ) → length bs ≤ length xs → sets xs 0 bs ≡ patched xs 0 bs
unfolding patched
stores_are bs xs h = sets-eq bs xs 0 (rw zero-add h) ∙ append_assoc (take 0 xs) bs (drop (0 + length bs) xs)

module _ (xs : List ℕ) (i : ℕ) (bs : List ℕ) where
  pub put-takes : i + length bs ≤ length xs → put_refusal xs i bs ≡ 0
  unfolding put_refusal
  put-takes h = rw (le-leb _ _ h)

  pub put_stores : i + length bs ≤ length xs → put_buffer xs i bs ≡ patched xs i bs
  unfolding put_buffer
  put_stores h = rw (le-leb _ _ h)

  pub put_refuses : length xs < i + length bs → put_refusal xs i bs ≡ no_room
  unfolding put_refusal
  put_refuses h = rw (lt-leb _ _ h)

  pub put_keeps : length xs < i + length bs → put_buffer xs i bs ≡ xs
  unfolding put_buffer
  put_keeps h = rw (lt-leb _ _ h)

  -- a refused write changes nothing
  pub refused_changes_nothing : {k : ℕ} → put_refusal xs i bs ≡ suc k → put_buffer xs i bs ≡ xs
  unfolding put_refusal put_buffer
  refused_changes_nothing {k} e = by (leb (i + length bs) (length xs)) e
    where
      by : (b : Bool) → cond b 0 no_room ≡ suc k → cond b (patched xs i bs) xs ≡ xs
      by true z = absurd (omega (arith, z))
      by false z = refl

  -- a write keeps the buffer's length, refused or not
  pub put-length : length (put_buffer xs i bs) ≡ length xs
  unfolding put_buffer
  put-length = by (leb (i + length bs) (length xs)) refl
    where
      by : (b : Bool) → leb (i + length bs) (length xs) ≡ b → length (cond b (patched xs i bs) xs) ≡ length xs
      by true e = patched-length xs i bs (leb-true _ _ e)
      by false e = refl

-- a number after a run of bytes is the number at the front of the rest
pub number_after : (n j : ℕ) (p q : List ℕ) → number_at n (length p + j) (p ++ q) ≡ number_at n j q
number_after zero j p q = refl
number_after (suc n) j p q =
    let e : length p + j + 1 ≡ length p + (j + 1) = omega arith in
    rw (get_or-append-add p q j 0, e, number_after n (j + 1) p q)

-- the bytes at a place are those of the number that is read there
pub bytes-at : (n i : ℕ) (s : List ℕ) → ((j : ℕ) → get_or s j 0 < 256) → i + n ≤ length s → bytes_of n (number_at n i s) ≡ take n (drop i s)
bytes-at n i s k h =
    let z : i ≡ length (take i s) + 0 = omega (arith, length-take-le i s (omega arith)) in
    ap (bytes_of n)
    (ap (number_at n i) (sym (take-append-drop i s)) ∙ ap (λ (m : ℕ). number_at n m (take i s ++ drop i s)) z ∙ number_after n 0 (take i s) (drop i s))
    ∙ bytes_back n (drop i s) (omega (arith, length-drop i s)) (bytes-later i s k)

-- a number that fits its width and is written at a place is read there again
pub read_of_written : (n v i : ℕ) (xs : List ℕ) → v < 256 ^ n → i + n ≤ length xs → number_at n i (put_buffer xs i (bytes_of n v)) ≡ v
unfolding patched
read_of_written n v i xs f h =
    let l : i + length (bytes_of n v) ≤ length xs = omega (arith, length-bytes_of n v) in
    let k : length (take i xs) + 0 ≡ i = omega (arith, length-take-le i xs (omega arith)) in
    ap (number_at n i) (put_stores xs i (bytes_of n v) l)
    ∙ ap (λ (m : ℕ). number_at n m (patched xs i (bytes_of n v))) (sym k)
    ∙ number_after n 0 (take i xs) (bytes_of n v ++ drop (i + length (bytes_of n v)) xs)
    ∙ number_back n v (drop (i + length (bytes_of n v)) xs) f

-- ---- what a write leaves elsewhere

module _ (xs : List ℕ) (a : ℕ) (bs : List ℕ) (fits : a + length bs ≤ length xs) where
  -- bytes before the run stay
  pub patched-before : (i : ℕ) → i < a → get_or (patched xs a bs) i 0 ≡ get_or xs i 0
  unfolding patched
  patched-before i h =
      get_or-append (take a xs) (bs ++ drop (a + length bs) xs) 0 i (omega (arith, length-take-le a xs (omega arith)))
      ∙ get_or-take a xs i 0 h

  -- and so do those after it
  pub patched-after : (i : ℕ) → a + length bs ≤ i → get_or (patched xs a bs) i 0 ≡ get_or xs i 0
  unfolding patched
  patched-after i h =
      let front : length (take a xs ++ bs) ≡ a + length bs = head_length xs a bs fits in
      let e : length (take a xs ++ bs) + (i - (a + length bs)) ≡ i = omega arith in
      let f : a + length bs + (i - (a + length bs)) ≡ i = omega arith in
      ap (λ (l : List ℕ). get_or l i 0) (sym (append_assoc (take a xs) bs (drop (a + length bs) xs)))
      ∙ ap (λ (j : ℕ). get_or ((take a xs ++ bs) ++ drop (a + length bs) xs) j 0) (sym e)
      ∙ get_or-append-add (take a xs ++ bs) (drop (a + length bs) xs) (i - (a + length bs)) 0
      ∙ get_or-drop (a + length bs) xs (i - (a + length bs)) 0
      ∙ ap (λ (j : ℕ). get_or xs j 0) f

  -- a number that lies before the run stays
  pub number_before : (n i : ℕ) → i + n ≤ a → number_at n i (patched xs a bs) ≡ number_at n i xs
  number_before zero i h = refl
  number_before (suc n) i h = ap₂ (λ (x y : ℕ). x + 256 * y) (patched-before i (omega arith)) (number_before n (i + 1) (omega arith))

  -- and so does one that lies after it
  pub number_beyond : (n i : ℕ) → a + length bs ≤ i → number_at n i (patched xs a bs) ≡ number_at n i xs
  number_beyond zero i h = refl
  number_beyond (suc n) i h = ap₂ (λ (x y : ℕ). x + 256 * y) (patched-after i h) (number_beyond n (i + 1) (omega arith))

-- ---- bytes that fill a buffer whole

pub patched-whole : (z f : List ℕ) → length z ≡ length f → patched z 0 f ≡ f
unfolding patched
patched-whole z f e =
    ap (λ (n : ℕ). f ++ drop n z) (zero-add (length f))
    ∙ ap (λ (l : List ℕ). f ++ l) (drop_of_length-le z {i = length f} (omega arith))
    ∙ append-nil f

-- by a part of others
pub patched-part : (z s : List ℕ) (w a : ℕ) {ys : List ℕ} → length z ≡ w → a + w ≤ length s → ys ≡ patched z 0 (take w (drop a s)) → ys ≡ take w (drop a s)
patched-part z s w a l h e =
    let d : length (drop a s) ≡ length s - a = length-drop a s in
    e ∙ patched-whole z (take w (drop a s)) (l ∙ sym (length-take-le w (drop a s) (omega arith)))
