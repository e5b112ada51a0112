-- A group's bitfields, lifted out of a buffer.
-- Assumes nothing.
use mathlib.Core.Path.{◌≡◌, sym, ap, ap₂, ◌∙◌}
use mathlib.Core.Bool.{true}
use mathlib.Core.List.{List, ◌++◌}
use Prim.Native.Nat.{ℕ, ◌+◌, ◌-◌, ◌≤◌, ◌<◌}
use native.Mathlib.Omega.{arith}
use lib.Dec.{leb}
use lib.ListN.{length, get_or, take, drop, length-drop}
use lib.Seq.{length-take-le}
use borrow.Author.Tests.{le-leb, lt-leb, leb-true}
use Rattle.numbers.specs.Numbers.{patched}
use Rattle.block.specs.Slots.{zeros}
use Rattle.block.specs.SlotLaws.{put_in_zeros, both_true}
use Rattle.session_fields.specs.SessionFields.{front_of, has_bits, bits_at}

-- ---- the first bytes from a place on, into the front of a buffer

module _ (n at : ℕ) (s to : List ℕ) where
  front-there : at + n ≤ length s → n ≤ length to → front_of n at s to ≡ patched to 0 (take n (drop at s))
  unfolding front_of
  front-there h l = rw (le-leb _ _ h, le-leb _ _ l)

  pub front-short : length s < at + n → to ≡ front_of n at s to
  unfolding front_of
  front-short h = rw (lt-leb _ _ h)

  pub front-full : at + n ≤ length s → length to < n → to ≡ front_of n at s to
  unfolding front_of
  front-full h l = rw (le-leb _ _ h, lt-leb _ _ l)

  -- as a function has it
  pub front_copied : at + n ≤ length s → n ≤ length to → (m : ℕ) → m ≡ at + n → {out : List ℕ} → out ≡ patched to 0 (take (m - at) (drop at s)) → out ≡ front_of n at s to
  front_copied h l m e {out} p =
      let k : m - at ≡ n = omega arith in
      p ∙ ap (λ (j : ℕ). patched to 0 (take j (drop at s))) k ∙ sym (front-there h l)

-- ---- bitfields, zero after them

bits_held : (n at : ℕ) (s : List ℕ) → at + n ≤ length s → n ≤ 15 → front_of n at s (zeros 15) ≡ take n (drop at s) ++ zeros (15 - n)
bits_held n at s h l =
    let e : length (take n (drop at s)) ≡ n = length-take-le n (drop at s) (simp length-drop (omega arith)) in
    front-there n at s (zeros 15) h l ∙ put_in_zeros 15 (take n (drop at s)) ∙ ap (λ (m : ℕ). take n (drop at s) ++ zeros (15 - m)) e

pub bits_got : (at n : ℕ) (s : List ℕ) → n ≡ get_or s (at + 4) 0 → has_bits at s ≡ true → {out : List ℕ} → out ≡ front_of n (at + 5) s (zeros 15)
    → record { count = n; bits = out } ≡ bits_at (get_or s (at + 4) 0) (at + 5) s
bits_got at n s e has {out} o =
    let m = get_or s (at + 4) 0 in
    let j = both_true (leb m 15) (leb (at + 5 + m) (length s)) has in
    let held : out ≡ take m (drop (at + 5) s) ++ zeros (15 - m) = o ∙ ap (λ (k : ℕ). front_of k (at + 5) s (zeros 15)) e ∙ bits_held m (at + 5) s (leb-true _ _ j.1) (leb-true _ _ j.0) in
    ap₂ (λ (k : ℕ) (l : List ℕ). record { count = k; bits = l }) e held
