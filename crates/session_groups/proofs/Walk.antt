-- The loops over pairs and over groups: one more turn, and the end.
-- Assumes nothing.
use mathlib.Core.Path.{◌≡◌, refl, sym, ap, ◌∙◌}
use mathlib.Core.Bool.{true, cond, ◌&&◌}
use mathlib.Core.List.{List}
use Prim.Native.Nat.{ℕ, suc, ◌+◌, ◌-◌, ◌*◌, ◌≤◌, ◌<◌, zero-le}
use native.Mathlib.Omega.{arith}
use native.Mathlib.Numerals.{add-one}
use lib.Dec.{eqb}
use lib.ListN.{length, get_or, take, drop, length-drop, length-set, replicate}
use borrow.Author.Tests.{ne_eqb}
use Rattle.session_groups.specs.Groups.{free, mark, units_from, next_size, group_key, groups_from, groups_end}
use Rattle.numbers.proofs.Tail.{tail_is}
use Rattle.session_groups.proofs.GroupLaws.{next_fits}

-- ---- units

-- one more pair
pub units_step : (s marks : List ℕ) (n i : ℕ) → i < n → units_from (n - i) i s marks ≡ ◌&&◌ (free marks (get_or s (5 * i) 0)) (units_from (n - (i + 1)) (i + 1) s (mark marks (get_or s (5 * i) 0)))
unfolding units_from
units_step s marks n i h =
    let k : n - i ≡ suc (n - (i + 1)) = omega arith in
    ap (λ (m : ℕ). units_from m i s marks) k ∙ rw (add-one i) refl

-- and no more
pub units_none : (s marks : List ℕ) (n i : ℕ) → n ≤ i → units_from (n - i) i s marks ≡ true
unfolding units_from
units_none s marks n i h = let k : n - i ≡ 0 = omega arith in ap (λ (m : ℕ). units_from m i s marks) k

-- ---- groups

-- one more group
groups_step : (s marks : List ℕ) (n i at : ℕ) → i < n
    → groups_from (n - i) at s marks ≡ cond (eqb (next_size marks (drop at s)) 0) 0 (groups_from (n - (i + 1)) (at + next_size marks (drop at s)) s (mark marks (group_key (drop at s))))
unfolding groups_from
groups_step s marks n i at h = let j : n - i ≡ suc (n - (i + 1)) = omega arith in ap (λ (m : ℕ). groups_from m at s marks) j

-- the loop over groups: the groups still to come end where all of them do
pub record Going (n : ℕ) (s marks : List ℕ) (at i : ℕ) : Type 0 where
  pub inside : at ≤ length s
  pub near : at ≤ 165 * i
  pub places : length marks ≡ 4
  pub same : groups_from (n - i) at s marks ≡ groups_end n s

pub going_first : (n : ℕ) (s : List ℕ) → Going n s (replicate 4 0) 0 0
going_first n s =
    let e : n - 0 ≡ n = omega arith in
    record { inside = zero-le; near = zero-le; places = refl; same = ap (λ (m : ℕ). groups_from m 0 s (replicate 4 0)) e }

module _ (n : ℕ) (s marks : List ℕ) (at i : ℕ) (w : Going n s marks at i) where
  -- a group against the rules
  pub going_stop : i < n → next_size marks (take (length s - at) (drop at s)) ≡ 0 → groups_end n s ≡ 0
  going_stop h z =
      let e : next_size marks (drop at s) ≡ 0 = ap (next_size marks) (sym (tail_is s at w.inside)) ∙ z in
      sym w.same ∙ groups_step s marks n i at h ∙ rw e

  -- a group that is taken
  pub going_on : i < n → {g k : ℕ} → g ≡ next_size marks (take (length s - at) (drop at s)) → k ≡ group_key (take (length s - at) (drop at s)) → 0 < g
      → (at + g ≤ length s) × (g ≤ 165) × Going n s (mark marks k) (at + g) (i + 1)
  going_on h {g} {k} e q z =
      let t = tail_is s at w.inside in
      let e' : g ≡ next_size marks (drop at s) = e ∙ ap (next_size marks) t in
      let q' : k ≡ group_key (drop at s) = q ∙ ap group_key t in
      let f = next_fits marks (drop at s) (λ y. omega (arith, e', y)) in
      let l : at + g ≤ length s = omega (arith, e', f.0, length-drop at s, w.inside) in (
        l,
        omega (arith, e', f.1),
        record {
          inside = l;
          near = omega (arith, w.near, e', f.1);
          places = length-set marks k 1 ∙ w.places;
          same = rw (e', q') (sym (groups_step s marks n i at h ∙ rw (ne_eqb (next_size marks (drop at s)) 0 (λ y. omega (arith, e', y)))) ∙ w.same);
        },
      )

  -- no more groups
  pub going_none : n ≤ i → groups_end n s ≡ suc at
  unfolding groups_from
  going_none h = let k : n - i ≡ 0 = omega arith in sym w.same ∙ ap (λ (m : ℕ). groups_from m at s marks) k
