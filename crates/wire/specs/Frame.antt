-- Framing: what a run of bytes starts with. Definitions alone. Assumes nothing.
use Rattle.std.specs.Prelude.{ℕ, Bool, cond, not, ◌&&◌, ◌||◌, List, [], leb, ltb, eqb, length, get_or, take}
use Rattle.refusals.specs.Names.{bad_start, bad_length, incomplete}
use Rattle.wire.specs.Header.{length_of, total_of}

-- a byte is present at place i and is not BA
unfoldable pub not_ba : List ℕ → ℕ → Bool
not_ba s i = ltb i (length s) && not (eqb (get_or s i 0) 186)

-- 1: a byte present at 0 or 1 is not BA
unfoldable pub starts_bad : List ℕ → Bool
starts_bad s = not_ba s 0 || not_ba s 1

-- 2: four bytes are present, and the length is under 8 or over 2,046
unfoldable pub length_bad : List ℕ → Bool
length_bad s = leb 4 (length s) && (ltb (length_of s) 8 || ltb 2046 (length_of s))

-- 3: fewer than four bytes, or fewer than the total
unfoldable pub cut_short : List ℕ → Bool
cut_short s = ltb (length s) 4 || ltb (length s) (total_of s)

-- The number of framing's refusal, or 0.
unfoldable pub frame_refusal : List ℕ → ℕ
frame_refusal s =
    cond (starts_bad s) bad_start
    (cond (length_bad s) bad_length
    (cond (cut_short s) incomplete
    0))

-- The first whole message, the part of the buffer that it is; a refused part is empty.
unfoldable pub framed : List ℕ → List ℕ
framed s = cond (eqb (frame_refusal s) 0) (take (total_of s) s) []
