-- The header of a message. Definitions alone. Assumes nothing.
use Rattle.std.specs.Prelude.{ℕ, ◌+◌, List, ◌∷◌, ◌++◌, get_or}
use Rattle.numbers.specs.Numbers.{number_at, bytes_of}

-- 01, Wire basics: BA BA; length (2); type (1); unit (1); number (4)
abbrev pub header_bytes : ℕ → ℕ → ℕ → ℕ → List ℕ
header_bytes told type unit number = 186 ∷ 186 ∷ bytes_of 2 told ++ (type ∷ unit ∷ bytes_of 4 number)

-- the length, at 2
unfoldable pub length_of : List ℕ → ℕ
length_of s = number_at 2 2 s

-- the type, at 4
abbrev pub type_of : List ℕ → ℕ
type_of s = get_or s 4 0

-- the unit, at 5
abbrev pub unit_of : List ℕ → ℕ
unit_of s = get_or s 5 0

-- the number, at 6
unfoldable pub number_of : List ℕ → ℕ
number_of s = number_at 4 6 s

-- the total is the length and 2
unfoldable pub total_of : List ℕ → ℕ
total_of s = length_of s + 2
