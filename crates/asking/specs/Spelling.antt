-- What an answer is written with, as text: bytes in hex, and the decimals of a price. Definitions alone. Assumes nothing.
use Rattle.std.specs.Prelude.{ℕ, ◌+◌, ◌/◌, ◌%◌, cond, List, [], ◌∷◌, ltb}

-- a capital hex digit
abbrev pub capital : ℕ → ℕ
capital d = cond (ltb d 10) (48 + d) (55 + d)

-- bytes in capital hex, two digits a byte
unfoldable pub hex_of : List ℕ → List ℕ
hex_of [] = []
hex_of (b ∷ s) = capital (b / 16) ∷ capital (b % 16) ∷ hex_of s

-- the point and the four decimals of a count of ten-thousandths
abbrev pub decimals_of : ℕ → List ℕ
decimals_of m = 46 ∷ (48 + m / 1000 % 10) ∷ (48 + m / 100 % 10) ∷ (48 + m / 10 % 10) ∷ (48 + m % 10) ∷ []
