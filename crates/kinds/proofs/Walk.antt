-- One more byte of a walk over a field, and the end of the walk: what is left of the list is its next byte and the rest, and each definition computes there.
-- Assumes nothing.
use mathlib.Core.Path.{◌≡◌, refl, sym, ap, ◌∙◌}
use mathlib.Core.Bool.{Bool, true, false, ◌&&◌}
use mathlib.Core.List.{List, [], ◌∷◌}
use Prim.Native.Nat.{ℕ, ◌+◌, ◌-◌, ◌≤◌, ◌<◌}
use native.Mathlib.Numerals.{add-one}
use native.Mathlib.Omega.{arith}
use lib.ListN.{length, take, drop, get_or, length-drop, drop_of_length-le}
use lib.Seq.{drop-cons, take_all}
use borrow.Author.Tests.{ne_eqb}
use Rattle.kinds.specs.Kinds.{all_nul}

module _ (s : List ℕ) (i : ℕ) (h : i < length s) where
  pub cons_at : drop i s ≡ get_or s i 0 ∷ drop (i + 1) s
  cons_at = rw (add-one, drop-cons s i 0)

  pub nul_no : (get_or s i 0 ≡ 0 → ⊥) → all_nul (drop i s) ≡ false
  nul_no n = ap all_nul cons_at ∙ rw (ne_eqb _ _ n)

swap : (t r o : Bool) → (r && (t && o)) ≡ ((t && r) && o)
swap true r o = refl
swap false true o = refl
swap false false o = refl

-- one more byte of a walk that stops nowhere: f is the byte's test t and what g says of the rest; o is the answer so far, and q the next one
module _ (f : List ℕ → Bool) (g : ℕ → List ℕ → Bool) (t : ℕ → Bool) (step : (b : ℕ) (bs : List ℕ) → f (b ∷ bs) ≡ (t b && g b bs)) where
  pub goes_on : (s : List ℕ) (i : ℕ) → i < length s → (o q w : Bool) → q ≡ (t (get_or s i 0) && o) → (f (drop i s) && o) ≡ w → (g (get_or s i 0) (drop (i + 1) s) && q) ≡ w
  goes_on s i h o q w n k =
      let b = get_or s i 0 in
      let bs = drop (i + 1) s in
      ap (λ x. g b bs && x) n
      ∙ swap (t b) (g b bs) o
      ∙ ap (λ x. x && o) (sym (ap f (cons_at s i h) ∙ step b bs))
      ∙ k

-- the walk has passed every byte
pub walk_end : {A : Type 0} (f : List ℕ → A) (s : List ℕ) (i : ℕ) → length s ≤ i → f (drop i s) ≡ f []
walk_end f s i h = ap f (drop_of_length-le s h)

-- a tail that is lent
pub tail_is : (l : List ℕ) (a : ℕ) → a ≤ length l → take (length l - a) (drop a l) ≡ drop a l
tail_is l a h = take_all (length l - a) (drop a l) (simp length-drop (omega arith))
