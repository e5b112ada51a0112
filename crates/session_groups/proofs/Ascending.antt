-- Lists of pairs whose units ascend.
--     ascending_in_order    units from 1 to 32 that ascend, with any numbers, are in order
--     full-list             all 32 units are in order
-- Assumes nothing.
use Rattle.std.specs.Prelude.{◌≡◌, refl, List, [], ◌∷◌, ℕ, zero, suc, ◌+◌, ◌≤◌, ◌<◌, length, get_or}
use Rattle.std.proofs.Common.{ap, arith}
use Rattle.session_groups.specs.Values.{Pair, units_of, NumbersFit, PairsInOrder}

-- n pairs from unit k on, with the number that each unit has
abbrev pub listed : ℕ → ℕ → (ℕ → ℕ) → List Pair
listed zero k number = []
listed (suc n) k number = record { unit = k; number = number k } ∷ listed n (suc k) number

-- the units are from k to 32, and each is above those before it
abbrev pub Ascends : ℕ → List Pair → Type 0
Ascends k [] = Unit {0}
Ascends k (p ∷ ps) = (k ≤ p.unit) × (p.unit ≤ 32) × Ascends (suc p.unit) ps

-- ---- such lists

pub ascends_below : (j k : ℕ) (ps : List Pair) → j ≤ k → Ascends k ps → Ascends j ps
ascends_below j k [] h a = tt
ascends_below j k (p ∷ ps) h a = (omega (arith, h, a.0), a.1, a.2)

pub listed_ascends : (n k : ℕ) (number : ℕ → ℕ) → k + n ≤ 33 → Ascends k (listed n k number)
listed_ascends zero k number h = tt
listed_ascends (suc n) k number h = (omega arith, omega arith, listed_ascends n (suc k) number (omega arith))

pub numbers_fit : (n k : ℕ) (number : ℕ → ℕ) → ((u : ℕ) → number u < 4294967296) → NumbersFit (listed n k number)
numbers_fit zero k number h = tt
numbers_fit (suc n) k number h = (h k, numbers_fit n (suc k) number h)

-- ---- they are in order

few_left : (k : ℕ) (ps : List Pair) → k ≤ 33 → Ascends k ps → k + length ps ≤ 33
few_left k [] h a = omega arith
few_left k (p ∷ ps) h a = let r = few_left (suc p.unit) ps (omega (arith, a.1)) a.2 in omega (arith, r, a.0)

units_long : (ps : List Pair) → length (units_of ps) ≡ length ps
units_long [] = refl
units_long (p ∷ ps) = ap suc (units_long ps)

within : (k : ℕ) (ps : List Pair) → Ascends k ps → (i : ℕ) → i < length (units_of ps) → (k ≤ get_or (units_of ps) i 0) × (get_or (units_of ps) i 0 ≤ 32)
within k [] a i h = absurd (omega arith)
within k (p ∷ ps) a zero h = (a.0, a.1)
within k (p ∷ ps) a (suc i) h = let r = within (suc p.unit) ps a.2 i (omega arith) in (omega (arith, r.0, a.0), r.1)

once : (k : ℕ) (ps : List Pair) → Ascends k ps → (i j : ℕ) → i < j → j < length (units_of ps) → get_or (units_of ps) i 0 ≡ get_or (units_of ps) j 0 → ⊥
once k [] a i j h l e = omega arith
once k (p ∷ ps) a i zero h l e = omega arith
once k (p ∷ ps) a zero (suc j) h l e = let r = within (suc p.unit) ps a.2 j (omega arith) in omega (arith, r.0, e)
once k (p ∷ ps) a (suc i) (suc j) h l e = once (suc p.unit) ps a.2 i j (omega arith) (omega arith) e

-- ASCENDING IN ORDER: units from 1 to 32 that ascend
pub ascending_in_order : (ps : List Pair) → Ascends 1 ps → NumbersFit ps → PairsInOrder ps
ascending_in_order ps a fit = record {
  few = let r = few_left 1 ps (omega arith) a in omega (arith, r);
  units = record { range = within 1 ps a; once = once 1 ps a };
  fit = fit;
}

-- FULL LIST: all 32 units are in order
pub full_list : (number : ℕ → ℕ) → ((u : ℕ) → number u < 4294967296) → PairsInOrder (listed 32 1 number)
full_list number h = ascending_in_order (listed 32 1 number) (listed_ascends 32 1 number (omega arith)) (numbers_fit 32 1 number h)
