-- A refusal with the byte place that it is about, as one number. Definitions alone. Assumes nothing.
use Rattle.std.specs.Prelude.{ℕ, ◌+◌, ◌*◌, ◌/◌, ◌%◌}

-- 02, request 3: refusals 6 to 10 answer the byte place too, counted from the message's first byte, which is 0. The number is the low byte, the place
-- is what stands above it; a refusal without a place is its number alone, and 0 stays 0
abbrev pub told : ℕ → ℕ → ℕ
told number place = number + 256 * place

-- the number of a refusal
abbrev pub number_in : ℕ → ℕ
number_in refusal = refusal % 256

-- its place, 0 where it has none: the header has no place of its own among 6 to 10
abbrev pub place_in : ℕ → ℕ
place_in refusal = refusal / 256
