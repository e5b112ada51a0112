-- The scans for a group and for a listed unit: one more turn, and the end. Assumes nothing.
use mathlib.Core.Path.{◌≡◌, sym, ap, ap₂, ◌∙◌}
use mathlib.Core.Bool.{true, false, cond}
use mathlib.Core.List.{List}
use Rattle.std.specs.Prelude.{None, Some}
use Prim.Native.Nat.{ℕ, suc, ◌+◌, ◌-◌, ◌*◌, ◌≤◌, ◌<◌}
use native.Mathlib.Omega.{arith}
use native.Mathlib.Numerals.{add-one}
use lib.Dec.{ltb, eqb}
use lib.ListN.{get_or}
use borrow.Author.Tests.{lt-ltb, le-ltb, eq-eqb, ne_eqb}
use Rattle.numbers.specs.Numbers.{number_at}
use Rattle.session_fields.specs.SessionFields.{group_is, group_from, listed_from}

-- the scan from the place reached answers what the scan over all does
pub record Seeking (n t x from : ℕ) (s : List ℕ) (left at : ℕ) : Type 0 where
  pub near : at ≤ 70000
  pub same : group_from left t x at s ≡ group_from n t x from s

module _ (t x at : ℕ) (s : List ℕ) (left : ℕ) (h : 0 < left) where
  one_more : group_from left t x at s ≡ cond (ltb at 433) (cond (group_is t x at s) (Some at) (group_from (left - 1) t x (at + number_at 2 at s) s)) None
  unfolding group_from
  one_more = let k : left ≡ suc (left - 1) = omega arith in ap (λ (m : ℕ). group_from m t x at s) k

  pub scan_outside : 433 ≤ at → None ≡ group_from left t x at s
  scan_outside o = sym (one_more ∙ rw (le-ltb _ _ o))

  pub scan_found : at < 433 → group_is t x at s ≡ true → Some at ≡ group_from left t x at s
  scan_found i e = sym (one_more ∙ rw (lt-ltb _ _ i, e))

  pub scan_on : at < 433 → group_is t x at s ≡ false → (left' : ℕ) → left' ≡ left - 1 → (g : ℕ) → g ≡ number_at 2 at s
      → group_from left' t x (at + g) s ≡ group_from left t x at s
  scan_on i e left' k g q = ap₂ (λ (n m : ℕ). group_from n t x (at + m) s) k q ∙ sym (one_more ∙ rw (lt-ltb _ _ i, e))

pub scan_over : (t x at : ℕ) (s : List ℕ) (left : ℕ) → left ≤ 0 → None ≡ group_from left t x at s
unfolding group_from
scan_over t x at s left h = let k : 0 ≡ left = omega arith in ap (λ (m : ℕ). group_from m t x at s) k

-- ---- the scan for a listed unit

module _ (unit at : ℕ) (s : List ℕ) (left i u : ℕ) (h : 0 < left) (q : u ≡ get_or s (at + 5 * i) 0) where
  one_pair_more : listed_from left unit i at s ≡ cond (eqb u unit) (Some i) (listed_from (left - 1) unit (suc i) at s)
  unfolding listed_from
  one_pair_more =
      let k : left ≡ suc (left - 1) = omega arith in
      ap (λ (m : ℕ). listed_from m unit i at s) k ∙ ap (λ (m : ℕ). cond (eqb m unit) (Some i) (listed_from (left - 1) unit (suc i) at s)) (sym q)

  pub pair_found : u ≡ unit → Some i ≡ listed_from left unit i at s
  pair_found e = sym (one_pair_more ∙ rw (eq-eqb _ _ e))

  pub pair_on : (u ≡ unit → ⊥) → (left' i' : ℕ) → left' ≡ left - 1 → i' ≡ i + 1 → listed_from left' unit i' at s ≡ listed_from left unit i at s
  pair_on e left' i' l k =
      ap₂ (λ (m j : ℕ). listed_from m unit j at s) l (k ∙ add-one i) ∙ sym (one_pair_more ∙ rw (ne_eqb _ _ e))

pub pairs_over : (unit at : ℕ) (s : List ℕ) (left i : ℕ) → left ≤ 0 → None ≡ listed_from left unit i at s
unfolding listed_from
pairs_over unit at s left i h = let k : 0 ≡ left = omega arith in ap (λ (m : ℕ). listed_from m unit i at s) k
