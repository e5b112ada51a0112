-- Prices on the wire. Definitions alone. Assumes nothing.
use Rattle.std.specs.Prelude.{ℕ, suc, ◌-◌, cond, List, ltb, ℤ, pos, negsuc}
use Rattle.numbers.specs.Numbers.{number_at, bytes_of}

-- Two's complement of 64 bits: the lower half is itself, and the upper half lies below zero, 2 ^ 64 - 1 being -1.
-- (`pos n` is n, and `negsuc n` is -(n + 1).)
abbrev pub signed_of : ℕ → ℤ
signed_of v = cond (ltb v 9223372036854775808) (pos v) (negsuc (18446744073709551616 - suc v))

-- The 64 bits of a number with a sign.
abbrev pub bits_of : ℤ → ℕ
bits_of (pos n) = n
bits_of (negsuc n) = 18446744073709551616 - suc n

-- 01, Wire basics: a price is 8 bytes, two's complement. It is told in ten-thousandths, as it has four implied decimals.
abbrev pub price_at : ℕ → List ℕ → ℤ
price_at i s = signed_of (number_at 8 i s)

-- The bytes of a price.
abbrev pub price_bytes : ℤ → List ℕ
price_bytes p = bytes_of 8 (bits_of p)
