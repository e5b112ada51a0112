-- What the fields take that are still to be passed, at the end of a byte and after places that are passed over. Assumes nothing.
use mathlib.Core.Path.{◌≡◌, ap}
use mathlib.Core.List.{List}
use Prim.Native.Nat.{ℕ, zero, suc, ◌+◌, ◌-◌, ◌≤◌}
use native.Mathlib.Nat.{add-zero, zero-add}
use native.Mathlib.Omega.{arith}
use Rattle.block.specs.Places.{slots_from}
use Rattle.block.specs.Fits.{bits_take, left}

-- after a byte's last bit it takes no more
pub take_end : (message byte i x : ℕ) → 8 ≤ i → bits_take message byte (8 - i) i x ≡ 0
unfolding bits_take
take_end message byte i x h =
    let n : 8 - i ≡ 0 = omega arith in
    ap (λ (m : ℕ). bits_take message byte m i x) n

module _ (message count : ℕ) (bits : List ℕ) where
  -- i places take no more than they and the n before them
  left_after : (n i k : ℕ) → left message count bits i (k + n) ≤ left message count bits (n + i) k
  unfolding slots_from
  left_after zero i k = rw (add-zero k, zero-add i) (omega arith)
  left_after (suc n) i k =
      let e : suc k + n ≡ k + suc n = omega arith in
      let s : suc n + i ≡ suc (n + i) = omega arith in
      let h : left message count bits i (suc k + n) ≤ left message count bits (n + i) (suc k) = left_after n i (suc k) in
      rw (s, ← e) (omega arith)

  -- so they fit where all fit
  pub fits_after : (n i k at : ℕ) {room : ℕ} → at + left message count bits (n + i) k ≤ room → at + left message count bits i (k + n) ≤ room
  fits_after n i k at h = omega (arith, left_after n i k)
