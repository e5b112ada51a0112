-- What a record's fixed part holds after the fixed part of its message: the middle, and zeros. Assumes nothing.
use mathlib.Core.Path.{◌≡◌, sym, ap, ◌∙◌}
use mathlib.Core.Bool.{true, ◌&&◌}
use mathlib.Core.List.{List}
use Prim.Native.Nat.{ℕ, ◌+◌, ◌-◌, ◌≤◌}
use native.Mathlib.Omega.{arith}
use lib.ListN.{length, take, drop, length-drop}
use lib.Seq.{drop-drop}
use borrow.Author.Tests.{ne_eqb}
use Rattle.numbers.proofs.Tail.{tail_is}
use Rattle.kinds.specs.Kinds.{all_nul}
use Rattle.block.specs.Sizes.{fixed_size}
use Rattle.orders.specs.Shapes.{count_at}
use Rattle.orders.specs.Middle.{middle_size, middle_good}
use Rattle.orders.proofs.OrderLaws.{count_bounds, middle-fits}
use Rattle.order_writer.proofs.Windows.{windows_from}

-- ---- where it begins, by the place of the count byte

module _ (message : ℕ) (fixed : List ℕ) (lf : length fixed ≡ fixed_size) {at : ℕ} (e : at ≡ count_at message) where
  pub held_low : 10 ≤ at
  held_low = omega (arith, e, (count_bounds message).low)

  pub held-there : at - 10 ≤ length fixed
  held-there = omega (arith, e, lf, (count_bounds message).high)

  -- the part that is lent
  pub held_is_lem : take (length fixed - (at - 10)) (drop (at - 10) fixed) ≡ drop (count_at message - 10) fixed
  held_is_lem = tail_is fixed (at - 10) held-there ∙ ap (λ (n : ℕ). drop (n - 10) fixed) e

-- a good middle lies within it
pub middle-held : (message count : ℕ) (fixed bits : List ℕ) → length fixed ≡ fixed_size → middle_good message count bits (drop (count_at message - 10) fixed) ≡ true
    → middle_size message count bits (drop (count_at message - 10) fixed) ≤ length (drop (count_at message - 10) fixed)
middle-held message count fixed bits lf g =
    let d : length (drop (count_at message - 10) fixed) ≡ length fixed - (count_at message - 10) = length-drop (count_at message - 10) fixed in
    omega (arith, d, lf, middle-fits message count bits (drop (count_at message - 10) fixed) g, (count_bounds message).low)

-- ---- what is not used

-- the places after k bytes from a place on
pub blank-after : (s : List ℕ) (a k : ℕ) → a + k ≤ length s → all_nul (take (length s - (a + k)) (drop (a + k) s)) ≡ all_nul (drop k (drop a s))
blank-after s a k h = ap all_nul (tail_is s (a + k) h ∙ sym (drop-drop k a s))

-- a message other than Purge Orders has no middle: they are all that follows the fixed part
pub unused_is : (message count : ℕ) (fixed bits : List ℕ) {at : ℕ} → (message ≡ 0x47 → ⊥) → count_at message ≡ at
    → all_nul (drop (middle_size message count bits (drop (count_at message - 10) fixed)) (drop (count_at message - 10) fixed)) ≡ all_nul (drop (at - 10) fixed)
unfolding middle_size
unused_is message count fixed bits n e = rw (ne_eqb message 0x47 n, e)

-- in two windows that overlap or touch
pub unused_windows : (message count : ℕ) (fixed bits : List ℕ) (a k b n : ℕ) → length fixed ≡ b + n → a ≤ b → b ≤ a + k → (message ≡ 0x47 → ⊥) → count_at message ≡ 10 + a
    → (all_nul (take k (drop a fixed)) && all_nul (take n (drop b fixed))) ≡ all_nul (drop (middle_size message count bits (drop (count_at message - 10) fixed)) (drop (count_at message - 10) fixed))
unused_windows message count fixed bits a k b n l h w ne e =
    let at : 10 + a - 10 ≡ a = omega arith in
    windows_from a k b n fixed l h w ∙ sym (unused_is message count fixed bits ne e ∙ ap (λ (i : ℕ). all_nul (drop i fixed)) at)
