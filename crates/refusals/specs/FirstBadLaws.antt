-- What the place of the first bad field names. Assumes nothing.
use Rattle.std.specs.Prelude.{◌≡◌, refl, Bool, true, false, cond, ◌&&◌, List, [], ◌∷◌, ◌++◌, ℕ, ◌≤◌, leb, eqb}
use Rattle.std.proofs.Common.{ap, ◌∙◌, true≢false, arith, leb-true, ne_eqb}
use Rattle.std.proofs.Math.Bool.{and-eq-true_iff}
use Rattle.refusals.specs.FirstBad.{Tested, tested, all_good, first_bad, places_within}

-- a place is that of a field which is bad, and every field before it is good
pub record First (ts : List Tested) (place : ℕ) : Type 0 where
  pub earlier : List Tested
  pub later : List Tested
  pub split : ts ≡ earlier ++ (tested place false ∷ later)
  pub good : all_good earlier ≡ true

pub first_bad_is_first : (ts : List Tested) → all_good ts ≡ false → First ts (first_bad ts)
first_bad_is_first [] h = absurd (true≢false h)
first_bad_is_first (t ∷ ts) h = by t.good refl h (first_bad_is_first ts)
  where
    by : (b : Bool) → t.good ≡ b → (b && all_good ts) ≡ false → (all_good ts ≡ false → First ts (first_bad ts)) → First (t ∷ ts) (cond b (first_bad ts) t.place)
    by false e z more =
        record { earlier = []; later = ts; split = ap (λ (b : Bool). tested t.place b ∷ ts) e; good = refl }
    by true e z more =
        let f = more z in
        record { earlier = t ∷ f.earlier; later = f.later; split = ap (λ (l : List Tested). t ∷ l) f.split; good = ap (λ (b : Bool). b && all_good f.earlier) e ∙ f.good }

-- ---- places within bounds

-- what is told lies within them
pub first-within : (least most : ℕ) (ts : List Tested) → places_within least most ts ≡ true → first_bad ts ≤ most
first-within least most [] h = omega arith
first-within least most (t ∷ ts) h =
    let b = (and-eq-true_iff (leb least t.place && leb t.place most) (places_within least most ts)).0 h in
    let p = (and-eq-true_iff (leb least t.place) (leb t.place most)).0 b.0 in
    by t.good (leb-true t.place most p.1) (first-within least most ts b.1)
  where
    by : (g : Bool) → t.place ≤ most → first_bad ts ≤ most → cond g (first_bad ts) t.place ≤ most
    by true h l = l
    by false h l = h

-- and where no place is 0 something is told exactly where not all are good
pub first_found : (least most : ℕ) (ts : List Tested) → 1 ≤ least → places_within least most ts ≡ true → eqb (first_bad ts) 0 ≡ all_good ts
first_found least most [] l h = refl
first_found least most (t ∷ ts) l h =
    let b = (and-eq-true_iff (leb least t.place && leb t.place most) (places_within least most ts)).0 h in
    let p = (and-eq-true_iff (leb least t.place) (leb t.place most)).0 b.0 in
    by t.good (leb-true least t.place p.0) (first_found least most ts l b.1)
  where
    by : (g : Bool) → least ≤ t.place → eqb (first_bad ts) 0 ≡ all_good ts → eqb (cond g (first_bad ts) t.place) 0 ≡ (g && all_good ts)
    by true k e = e
    by false k e = ne_eqb t.place 0 (λ z. omega (arith, l, k, z))
