-- What is true of prices. Assumes nothing.
use Rattle.std.specs.Prelude.{◌≡◌, refl, List, ◌++◌, Bool, true, false, ℕ, suc, ◌-◌, ◌≤◌, ◌<◌, ltb, ℤ, pos, negsuc}
use Rattle.std.proofs.Common.{ap, ◌∙◌, arith, lt-ltb, le-ltb}
use Rattle.std.specs.Int.Signed.{mag}
use Rattle.numbers.specs.Numbers.{bytes_of}
use Rattle.numbers.specs.NumberLaws.{number_back}
use Rattle.numbers.specs.Prices.{signed_of, bits_of, price_at}

-- the bits of a price of 64 bits are below 2 ^ 64
pub bits_fit : (p : ℤ) → mag p < 9223372036854775808 → bits_of p < 18446744073709551616
bits_fit (pos n) h = omega (arith, h)
bits_fit (negsuc n) h = omega arith

-- a price, put into bits and taken out, is the price
pub signed_back : (p : ℤ) → mag p < 9223372036854775808 → signed_of (bits_of p) ≡ p
signed_back (pos n) h = rw (lt-ltb n 9223372036854775808 h)
signed_back (negsuc n) h =
    let l : 9223372036854775808 ≤ 18446744073709551616 - suc n = omega (arith, h) in
    let e : 18446744073709551616 - suc (18446744073709551616 - suc n) ≡ n = omega (arith, h) in
    rw (le-ltb (18446744073709551616 - suc n) 9223372036854775808 l) (ap negsuc e)

-- 64 bits, read as a price and put into bits again, are the bits
pub bits_back : (v : ℕ) → v < 18446744073709551616 → bits_of (signed_of v) ≡ v
bits_back v h = by (ltb v 9223372036854775808) refl
  where
    by : (b : Bool) → ltb v 9223372036854775808 ≡ b → bits_of (signed_of v) ≡ v
    by true e = rw e
    by false e = rw e (omega arith)

-- a price, written and read with any bytes after it, is the price
pub price-back : (p : ℤ) (t : List ℕ) → mag p < 9223372036854775808 → price_at 0 (bytes_of 8 (bits_of p) ++ t) ≡ p
price-back p t h = ap signed_of (number_back 8 (bits_of p) t (bits_fit p h)) ∙ signed_back p h
