-- The units that a table has an entry above 0 of, which a login lists where no choice is given.
--     used-more        those of one unit more
--     used-pairs       with their numbers: of all 32 pairs those whose number is above 0
--     used-ascends     they ascend
--     used-listed      every unit of 1 to 32 whose entry is above 0 is among them, with its number
--     listed-used      and no other is
--     used-asks        with flag 0 they ask of every unit for what is above its entry
-- Assumes nothing.
use Rattle.std.specs.Prelude.{◌≡◌, refl, ◌⊎◌, Bool, true, false, cond, List, [], ◌∷◌, ◌++◌, ℕ, zero, suc, ◌+◌, ◌-◌, ◌≤◌, ◌<◌, ltb, eqb, length, take, replicate}
use Rattle.std.proofs.Common.{sym, ap, ◌∙◌, inl, inr, arith, length-append, ltb-true, ltb-false, eqb-true, ne_eqb}
use Rattle.std.proofs.lemmas.List.{length-replicate}
use Rattle.std.proofs.lemmas.Bool.{eqb-false}
use Rattle.table.specs.declared.Table.{Table}
use Rattle.table.specs.declared.Unit.{Unit}
use Rattle.table.specs.Table.{last_of}
use Rattle.session_groups.specs.Values.{Pair, NumbersFit}
use Rattle.session_groups.specs.Asked.{asked_of}
use Rattle.session_groups.proofs.Ascending.{listed, Ascends, ascends_below, listed_ascends, numbers_fit}
use Rattle.session_logins.specs.LoginRequests.{only_if, is_used, used_from, filled, numbers_of, pairs_for}

-- ---- one unit more

onto_end : (b : Bool) (u : ℕ) (us vs : List Unit) → only_if b u (us ++ vs) ≡ only_if b u us ++ vs
onto_end true u us vs = refl
onto_end false u us vs = refl

pub used-more : (t : Table) (n k : ℕ) → used_from t (suc n) k ≡ used_from t n k ++ only_if (is_used t (k + n)) (k + n) []
unfolding used_from
used-more t zero k = let z : k ≡ k + 0 = omega arith in ap (λ (u : ℕ). only_if (is_used t u) u []) z
used-more t (suc n) k =
    let z : suc k + n ≡ k + suc n = omega arith in
    ap (only_if (is_used t k) k) (used-more t n (suc k) ∙ ap (λ (u : ℕ). used_from t n (suc k) ++ only_if (is_used t u) u []) z)
    ∙ onto_end (is_used t k) k (used_from t n (suc k)) (only_if (is_used t (k + suc n)) (k + suc n) [])

pub used_few : (t : Table) (n k : ℕ) → length (used_from t n k) ≤ n
unfolding used_from
used_few t zero k = omega arith
used_few t (suc n) k = by (is_used t k) (used_few t n (suc k))
  where
    by : (b : Bool) → length (used_from t n (suc k)) ≤ n → length (only_if b k (used_from t n (suc k))) ≤ suc n
    by true h = omega arith
    by false h = omega arith

abbrev blank : Unit
blank = record { 0 = 0 }

-- the places of a choice are 32
pub filled_long : (us : List Unit) → length us ≤ 32 → length (filled us) ≡ 32
filled_long us h = length-append us _ ∙ (let n : length (replicate (32 - length us) blank) ≡ 32 - length us = length-replicate (32 - length us) blank in omega (arith, h, n))

-- ---- with their numbers

-- of some pairs those whose number is above 0
abbrev pub kept_if : Bool → Pair → List Pair → List Pair
kept_if true p ps = p ∷ ps
kept_if false p ps = ps

abbrev pub above_zero : List Pair → List Pair
above_zero [] = []
above_zero (p ∷ ps) = kept_if (ltb 0 p.number) p (above_zero ps)

-- of all 32 units
unfoldable pub used_pairs : Table → List Pair
used_pairs t = above_zero (listed 32 1 (last_of t))

numbered : (t : Table) (n k : ℕ) → pairs_for t (numbers_of (used_from t n k)) ≡ above_zero (listed n k (last_of t))
unfolding used_from
numbered t zero k = refl
numbered t (suc n) k = by (is_used t k) (numbered t n (suc k))
  where
    by : (b : Bool) → pairs_for t (numbers_of (used_from t n (suc k))) ≡ above_zero (listed n (suc k) (last_of t))
        → pairs_for t (numbers_of (only_if b k (used_from t n (suc k)))) ≡ kept_if b (record { unit = k; number = last_of t k }) (above_zero (listed n (suc k) (last_of t)))
    by true e = ap (λ (ps : List Pair). record { unit = k; number = last_of t k } ∷ ps) e
    by false e = e

front_of : (us vs : List Unit) → take (length us) (numbers_of (us ++ vs)) ≡ numbers_of us
front_of [] vs = refl
front_of (u ∷ us) vs = ap (λ (l : List ℕ). u.0 ∷ l) (front_of us vs)

-- USED PAIRS
pub used_pairs_lem : (t : Table) → pairs_for t (take (length (used_from t 32 1)) (numbers_of (filled (used_from t 32 1)))) ≡ used_pairs t
unfolding used_pairs
used_pairs_lem t = ap (pairs_for t) (front_of (used_from t 32 1) _) ∙ numbered t 32 1

-- ---- in order

kept_ascends : (ps : List Pair) (k : ℕ) → Ascends k ps → Ascends k (above_zero ps)
kept_ascends [] k a = tt
kept_ascends (p ∷ ps) k a = by (ltb 0 p.number) (kept_ascends ps (suc p.unit) a.2)
  where
    by : (b : Bool) → Ascends (suc p.unit) (above_zero ps) → Ascends k (kept_if b p (above_zero ps))
    by true r = (a.0, a.1, r)
    by false r = ascends_below k (suc p.unit) (above_zero ps) (omega (arith, a.0)) r

kept_fit : (ps : List Pair) → NumbersFit ps → NumbersFit (above_zero ps)
kept_fit [] f = tt
kept_fit (p ∷ ps) f = by (ltb 0 p.number) (kept_fit ps f.1)
  where
    by : (b : Bool) → NumbersFit (above_zero ps) → NumbersFit (kept_if b p (above_zero ps))
    by true r = (f.0, r)
    by false r = r

-- USED ASCENDS
pub used_ascends : (t : Table) → Ascends 1 (used_pairs t)
unfolding used_pairs
used_ascends t = kept_ascends (listed 32 1 (last_of t)) 1 (listed_ascends 32 1 (last_of t) (omega arith))

pub used_fit : (t : Table) → ((u : ℕ) → last_of t u < 4294967296) → NumbersFit (used_pairs t)
unfolding used_pairs
used_fit t h = kept_fit (listed 32 1 (last_of t)) (numbers_fit 32 1 (last_of t) h)

-- ---- exactly these

-- a unit stands among pairs, with a number
abbrev pub Among : List Pair → ℕ → ℕ → Type 0
Among [] u n = ⊥
Among (p ∷ ps) u n = ((p.unit ≡ u) × (p.number ≡ n)) ⊎ Among ps u n

-- of pairs for n units from k on: a unit of these whose number is above 0
kept_among : (f : ℕ → ℕ) (u : ℕ) → 0 < f u → (n k : ℕ) → k ≤ u → u < k + n → Among (above_zero (listed n k f)) u (f u)
kept_among f u z zero k h l = absurd (omega arith)
kept_among f u z (suc n) k h l = by (eqb k u) (ltb 0 (f k)) refl refl (λ g. kept_among f u z n (suc k) g (omega arith))
  where
    by : (b c : Bool) → eqb k u ≡ b → ltb 0 (f k) ≡ c → (suc k ≤ u → Among (above_zero (listed n (suc k) f)) u (f u)) → Among (kept_if c (record { unit = k; number = f k }) (above_zero (listed n (suc k) f))) u (f u)
    by true true e g ih = let i : k ≡ u = eqb-true k u e in inl (i, ap f i)
    by true false e g ih = let i : k ≡ u = eqb-true k u e in let j : f k ≡ f u = ap f i in absurd (omega (arith, ltb-false 0 (f k) g, j, z))
    by false true e g ih = let i = eqb-false k u e in inr (ih (omega (arith, i, h)))
    by false false e g ih = let i = eqb-false k u e in ih (omega (arith, i, h))

-- and a unit that stands there is one of them
among_kept : (f : ℕ → ℕ) (u m n k : ℕ) → Among (above_zero (listed n k f)) u m → (k ≤ u) × (u < k + n) × (m ≡ f u) × (0 < m)
among_kept f u m zero k a = absurd a
among_kept f u m (suc n) k a = by (ltb 0 (f k)) refl a (λ r. among_kept f u m n (suc k) r)
  where
    more : (suc k ≤ u) × (u < suc k + n) × (m ≡ f u) × (0 < m) → (k ≤ u) × (u < k + suc n) × (m ≡ f u) × (0 < m)
    more r = (omega (arith, r.0), omega (arith, r.1), r.2, r.3)

    here : ltb 0 (f k) ≡ true → (k ≡ u) × (f k ≡ m) → (k ≤ u) × (u < k + suc n) × (m ≡ f u) × (0 < m)
    here g q = (omega (arith, q.0), omega (arith, q.0), sym q.1 ∙ ap f q.0, omega (arith, ltb-true 0 (f k) g, q.1))

    by : (c : Bool) → ltb 0 (f k) ≡ c → Among (kept_if c (record { unit = k; number = f k }) (above_zero (listed n (suc k) f))) u m
        → (Among (above_zero (listed n (suc k) f)) u m → (suc k ≤ u) × (u < suc k + n) × (m ≡ f u) × (0 < m)) → (k ≤ u) × (u < k + suc n) × (m ≡ f u) × (0 < m)
    by true g (inl q) ih = here g q
    by true g (inr r) ih = more (ih r)
    by false g r ih = more (ih r)

-- USED LISTED
pub used-listed : (t : Table) (u : ℕ) → 1 ≤ u → u ≤ 32 → 0 < last_of t u → Among (used_pairs t) u (last_of t u)
unfolding used_pairs
used-listed t u h l z = kept_among (last_of t) u z 32 1 h (omega arith)

-- LISTED USED
pub listed-used : (t : Table) (u n : ℕ) → Among (used_pairs t) u n → (1 ≤ u) × (u ≤ 32) × (n ≡ last_of t u) × (0 < n)
unfolding used_pairs
listed-used t u n a = let r = among_kept (last_of t) u n 32 1 a in (r.0, omega (arith, r.1), r.2, r.3)

-- ---- what they ask for

-- of pairs for n units from k on, with any flag: each its number
pub listed_asks : (f : ℕ → ℕ) (flag u n k : ℕ) → k ≤ u → u < k + n → asked_of flag (listed n k f) u ≡ f u
listed_asks f flag u zero k h l = absurd (omega arith)
listed_asks f flag u (suc n) k h l = by (eqb k u) refl (λ g. listed_asks f flag u n (suc k) g (omega arith))
  where
    by : (b : Bool) → eqb k u ≡ b → (suc k ≤ u → asked_of flag (listed n (suc k) f) u ≡ f u) → cond b (f k) (asked_of flag (listed n (suc k) f) u) ≡ f u
    by true e ih = ap f (eqb-true k u e)
    by false e ih = let i = eqb-false k u e in ih (omega (arith, i, h))

-- of those of them whose number is above 0, with flag 0: a unit before them is not listed
kept-none : (f : ℕ → ℕ) (u n k : ℕ) → u < k → asked_of 0 (above_zero (listed n k f)) u ≡ 0
kept-none f u zero k h = refl
kept-none f u (suc n) k h = by (ltb 0 (f k)) (ne_eqb k u (λ e. omega (arith, h, e))) (kept-none f u n (suc k) (omega arith))
  where
    by : (c : Bool) → eqb k u ≡ false → asked_of 0 (above_zero (listed n (suc k) f)) u ≡ 0 → asked_of 0 (kept_if c (record { unit = k; number = f k }) (above_zero (listed n (suc k) f))) u ≡ 0
    by true e ih = ap (λ (b : Bool). cond b (f k) (asked_of 0 (above_zero (listed n (suc k) f)) u)) e ∙ ih
    by false e ih = ih

-- and each of them asks for what is above its number, which is 0 where it is not listed
kept_asks : (f : ℕ → ℕ) (u n k : ℕ) → k ≤ u → u < k + n → asked_of 0 (above_zero (listed n k f)) u ≡ f u
kept_asks f u zero k h l = absurd (omega arith)
kept_asks f u (suc n) k h l = by (eqb k u) (ltb 0 (f k)) refl refl (λ g. kept_asks f u n (suc k) g (omega arith))
  where
    by : (b c : Bool) → eqb k u ≡ b → ltb 0 (f k) ≡ c → (suc k ≤ u → asked_of 0 (above_zero (listed n (suc k) f)) u ≡ f u) → asked_of 0 (kept_if c (record { unit = k; number = f k }) (above_zero (listed n (suc k) f))) u ≡ f u
    by true true e g ih = ap (λ (x : Bool). cond x (f k) (asked_of 0 (above_zero (listed n (suc k) f)) u)) e ∙ ap f (eqb-true k u e)
    by true false e g ih = let i : k ≡ u = eqb-true k u e in let z = ltb-false 0 (f k) g in kept-none f u n (suc k) (omega (arith, i)) ∙ (let y : 0 ≡ f k = omega (arith, z) in y) ∙ ap f i
    by false true e g ih = let i = eqb-false k u e in ap (λ (x : Bool). cond x (f k) (asked_of 0 (above_zero (listed n (suc k) f)) u)) e ∙ ih (omega (arith, i, h))
    by false false e g ih = let i = eqb-false k u e in ih (omega (arith, i, h))

-- USED ASKS: with flag 0 they ask, of every unit of 1 to 32, for what is above its entry
pub used_asks : (t : Table) (u : ℕ) → 1 ≤ u → u ≤ 32 → asked_of 0 (used_pairs t) u ≡ last_of t u
unfolding used_pairs
used_asks t u h l = kept_asks (last_of t) u 32 1 h (omega arith)
