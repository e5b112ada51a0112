-- Words of n lanes. An operation on words is the operation on each lane: bits do not pass from one to the next, as no sum of two lanes below 128
-- reaches 256. So a test made once on words is, by induction on the lanes, the test of each byte. What a lane's sum or bit says of its byte is computed for
-- the 128 bytes there are. Assumes nothing.
use mathlib.Core.Path.{◌≡◌, refl, ap, ap₂, ◌∙◌}
use mathlib.Core.Bool.{Bool, true, false, not, ◌&&◌, ◌||◌}
use Prim.Native.Nat.{ℕ, zero, suc, ◌+◌, ◌-◌, ◌*◌, ◌/◌, ◌%◌, ◌^◌, ◌≤◌, ◌<◌}
use native.Mathlib.Omega.{arith}
use lib.Bits.{bit_and, bit_or, bit_xor, and_zero_r, or_zero_r, or_lt, and_mask, and_shr, or_shr, xor_shr, and_mod, or_mod, xor_mod}
use lib.Dec.{leb}
use borrow.Author.Tests.{leb-true, leb-false}
use Rattle.kinds.specs.Words.{lanes, Low, bit, Marks}

-- ---- lanes

-- the lowest lane and the others
pub lane_low : (c r : ℕ) → c < 256 → (c + 256 * r) % 256 ≡ c
lane_low c r h = omega arith

pub lane_up : (c r : ℕ) → c < 256 → (c + 256 * r) / 256 ≡ r
lane_up c r h = omega arith

-- a word of lanes below 128 is at most the word of 127s
pub low-le : (n y : ℕ) → Low n y → y ≤ lanes n 127
unfolding Low
low-le zero y h = omega (arith, h)
low-le (suc n) y h =
    let l : y % 256 < 128 = h.0 in
    let u : y / 256 ≤ lanes n 127 = low-le n (y / 256) h.1 in
    omega arith

-- the lowest seven bits of each lane
module _ (n x : ℕ) where
  pub seven_low : bit_and x (lanes (suc n) 127) % 256 ≡ x % 128
  seven_low =
      and_mod x (lanes (suc n) 127) 8
      ∙ ap (bit_and (x % 256)) (lane_low 127 (lanes n 127) (omega arith))
      ∙ and_mask (x % 256) 7
      ∙ omega arith

  pub seven_up : bit_and x (lanes (suc n) 127) / 256 ≡ bit_and (x / 256) (lanes n 127)
  seven_up = and_shr x (lanes (suc n) 127) 8 ∙ ap (bit_and (x / 256)) (lane_up 127 (lanes n 127) (omega arith))

pub low_seven : (n x : ℕ) → Low n (bit_and x (lanes n 127))
unfolding Low
low_seven zero x = and_zero_r x
low_seven (suc n) x = (rw (seven_low n x) (omega arith), rw (seven_up n x) (low_seven n (x / 256)))

-- bit 5 set in each lane
module _ (n y : ℕ) where
  small_low : bit_or y (lanes (suc n) 32) % 256 ≡ bit_or (y % 256) 32
  small_low = or_mod y (lanes (suc n) 32) 8 ∙ ap (bit_or (y % 256)) (lane_low 32 (lanes n 32) (omega arith))

  small_up : bit_or y (lanes (suc n) 32) / 256 ≡ bit_or (y / 256) (lanes n 32)
  small_up = or_shr y (lanes (suc n) 32) 8 ∙ ap (bit_or (y / 256)) (lane_up 32 (lanes n 32) (omega arith))

pub low_small : (n y : ℕ) → Low n y → Low n (bit_or y (lanes n 32))
unfolding Low
low_small zero y h = or_zero_r y ∙ h
low_small (suc n) y h = (rw (small_low n y) (or_lt 7 (y % 256) 32 h.0 (omega arith)), rw (small_up n y) (low_small n (y / 256) h.1))

-- ---- marks

-- a mark of the word with bit 5 set is a mark of the word
pub marks_small : (p : ℕ → Bool) (n y g : ℕ) → Marks p n (bit_or y (lanes n 32)) g → Marks (λ b. p (bit_or b 32)) n y g
unfolding Marks
marks_small p zero y g m = tt
marks_small p (suc n) y g m = (m.0 ∙ ap (λ b. bit (p b)) (small_low n y), marks_small p n (y / 256) (g / 256) (rw (small_up n y) at m.1))

-- a sum marks the lanes that reach 128 by it
pub marks_sum : (n y c : ℕ) → c < 128 → Low n y → Marks (λ b. leb (128 - c) b) n y (y + lanes n c)
unfolding Low Marks
marks_sum zero y c l h = tt
marks_sum (suc n) y c l h = (by (leb (128 - c) (y % 256)) refl, rw up (marks_sum n (y / 256) c l h.1))
  where
    b : y % 256 < 128
    b = h.0

    by : (t : Bool) → leb (128 - c) (y % 256) ≡ t → (y + (c + 256 * lanes n c)) / 128 % 2 ≡ bit t
    by true e = let r : 128 - c ≤ y % 256 = leb-true _ _ e in let k = b in omega arith
    by false e = let r : y % 256 < 128 - c = leb-false _ _ e in let k = b in omega arith

    up : (y + (c + 256 * lanes n c)) / 256 ≡ y / 256 + lanes n c
    up = let k = b in omega arith

-- an operation on bits marks what it makes of two marks
module _
    (op : ℕ → ℕ → ℕ)
    (shr : (a b k : ℕ) → op a b / 2 ^ k ≡ op (a / 2 ^ k) (b / 2 ^ k))
    (rem : (a b k : ℕ) → op a b % 2 ^ k ≡ op (a % 2 ^ k) (b % 2 ^ k)) where
  pub high_bit : (a b : ℕ) → op a b / 128 % 2 ≡ op (a / 128 % 2) (b / 128 % 2)
  high_bit a b = ap (λ (x : ℕ). x % 2) (shr a b 7) ∙ rem (a / 128) (b / 128) 1

  marks_op : (f : Bool → Bool → Bool) → ((s t : Bool) → op (bit s) (bit t) ≡ bit (f s t))
      → (p q : ℕ → Bool) (n y g h : ℕ) → Marks p n y g → Marks q n y h → Marks (λ b. f (p b) (q b)) n y (op g h)
  unfolding Marks
  marks_op f e p q zero y g h a b = tt
  marks_op f e p q (suc n) y g h a b =
      (high_bit g h ∙ ap₂ op a.0 b.0 ∙ e (p (y % 256)) (q (y % 256)), rw (shr g h 8) (marks_op f e p q n (y / 256) (g / 256) (h / 256) a.1 b.1))

-- one of two, not both
abbrev pub differs : Bool → Bool → Bool
differs true t = not t
differs false t = t

pub and_bit : (s t : Bool) → bit_and (bit s) (bit t) ≡ bit (s && t)
and_bit true true = refl
and_bit true false = refl
and_bit false true = refl
and_bit false false = refl

pub or_bit : (s t : Bool) → bit_or (bit s) (bit t) ≡ bit (s || t)
or_bit true true = refl
or_bit true false = refl
or_bit false true = refl
or_bit false false = refl

pub xor_bit : (s t : Bool) → bit_xor (bit s) (bit t) ≡ bit (differs s t)
xor_bit true true = refl
xor_bit true false = refl
xor_bit false true = refl
xor_bit false false = refl

pub marks_or : (p q : ℕ → Bool) (n y g h : ℕ) → Marks p n y g → Marks q n y h → Marks (λ b. p b || q b) n y (bit_or g h)
marks_or = marks_op bit_or or_shr or_mod ◌||◌ or_bit

-- two sums mark the lanes that one of them lifts to 128 and not the other
pub marks_between : (n y c d : ℕ) → c < 128 → d < 128 → Low n y → Marks (λ b. differs (leb (128 - c) b) (leb (128 - d) b)) n y (bit_xor (y + lanes n c) (y + lanes n d))
marks_between n y c d lc ld h = marks_op bit_xor xor_shr xor_mod differs xor_bit _ _ n y _ _ (marks_sum n y c lc h) (marks_sum n y d ld h)

-- marks of one test are marks of another that says the same of every byte below 128
pub marks_same : (p q : ℕ → Bool) → ((b : ℕ) → b < 128 → p b ≡ q b) → (n y g : ℕ) → Low n y → Marks p n y g → Marks q n y g
unfolding Low Marks
marks_same p q e zero y g l m = tt
marks_same p q e (suc n) y g l m = (m.0 ∙ ap bit (e (y % 256) l.0), marks_same p q e n (y / 256) (g / 256) l.1 m.1)
