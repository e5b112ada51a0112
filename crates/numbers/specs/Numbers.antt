-- Numbers on the wire and in a buffer. Definitions alone. Assumes nothing.
use Rattle.std.specs.Prelude.{ℕ, zero, suc, ◌+◌, ◌*◌, ◌/◌, ◌%◌, cond, List, [], ◌∷◌, ◌++◌, leb, length, get_or, take, drop}
use Rattle.refusals.specs.Names.{no_room}

-- 01, Wire basics: all numbers are little endian.
-- The number in the n bytes of s from place i on. A byte past the end counts as zero.
abbrev pub number_at : ℕ → ℕ → List ℕ → ℕ
number_at zero i s = 0
number_at (suc n) i s = get_or s i 0 + 256 * number_at n (i + 1) s

-- The n bytes of a number, the lowest first.
abbrev pub bytes_of : ℕ → ℕ → List ℕ
bytes_of zero v = []
bytes_of (suc n) v = v % 256 ∷ bytes_of n (v / 256)

-- A buffer with the bytes bs from place i on, where they lie within it.
unfoldable pub patched : List ℕ → ℕ → List ℕ → List ℕ
patched xs i bs = take i xs ++ (bs ++ drop (i + length bs) xs)

-- 01, Numbers of refusal: 13 for a buffer too short for the whole result, here bs from place i on.
unfoldable pub put_refusal : List ℕ → ℕ → List ℕ → ℕ
put_refusal xs i bs = cond (leb (i + length bs) (length xs)) 0 no_room

-- What the buffer holds after bs were put at place i: a refusal stores nothing, and a write touches only its own bytes.
unfoldable pub put_buffer : List ℕ → ℕ → List ℕ → List ℕ
put_buffer xs i bs = cond (leb (i + length bs) (length xs)) (patched xs i bs) xs
