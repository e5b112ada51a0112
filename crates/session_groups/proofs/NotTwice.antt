-- What a walk with marks finds: that numbers are in their range and none comes twice. One law, for units and for group kinds alike.
-- Assumes nothing.
use Rattle.std.specs.Prelude.{◌≡◌, refl, true, List, [], ◌∷◌, ℕ, zero, suc, ◌<◌, ltb, length, get_or, replicate}
use Rattle.std.proofs.Common.{sym, ap, ◌∙◌, le_of_suc-le-suc, not-suc-le-zero, arith, length-set, get_or-set_same, get_or-set_other, eqb-true, ltb-true, lt-ltb, eq-eqb}
use Rattle.std.proofs.Math.Bool.{and-eq-true_iff}
use Rattle.std.proofs.lemmas.List.{length-replicate}
use Rattle.session_groups.specs.Groups.{free, mark}
use Rattle.session_groups.specs.Values.{Distinct, fresh}

-- a number is free: it is from 1 to the last place, and its mark is 0
pub record Free (marks : List ℕ) (u : ℕ) : Type 0 where
  pub some : 0 < u
  pub place : u < length marks
  pub not_yet : get_or marks u 0 ≡ 0

-- what the test finds
pub free_of : (marks : List ℕ) (u : ℕ) → free marks u ≡ true → Free marks u
free_of marks u h =
    let a = (and-eq-true_iff (ltb 0 u) _).0 h in
    let b = (and-eq-true_iff (ltb u (length marks)) _).0 a.1 in
    record { some = ltb-true _ _ a.0; place = ltb-true _ _ b.0; not_yet = eqb-true _ _ b.1 }

-- and what passes it
pub is_free : (marks : List ℕ) (u : ℕ) → Free marks u → free marks u ≡ true
is_free marks u f = rw (lt-ltb 0 u f.some, lt-ltb u (length marks) f.place, eq-eqb (get_or marks u 0) 0 f.not_yet)

-- numbers that are free at the start and of which none stands at two places
pub record Fresh (marks ks : List ℕ) : Type 0 where
  pub each : (i : ℕ) → i < length ks → Free marks (get_or ks i 0)
  pub once : (i j : ℕ) → i < j → j < length ks → get_or ks i 0 ≡ get_or ks j 0 → ⊥

-- what is free after k came is not k
other : (marks : List ℕ) (k u : ℕ) → k < length marks → get_or (mark marks k) u 0 ≡ 0 → k ≡ u → ⊥
other marks k u h z e =
    let o : get_or (mark marks k) k 0 ≡ 1 = get_or-set_same marks k 1 0 h in
    let y : get_or (mark marks k) k 0 ≡ 0 = ap (λ (v : ℕ). get_or (mark marks k) v 0) e ∙ z in
    omega arith

-- and was free before
earlier : (marks : List ℕ) (k u : ℕ) → k < length marks → Free (mark marks k) u → Free marks u
earlier marks k u h f = record {
  some = f.some;
  place = omega (arith, f.place, length-set marks k 1);
  not_yet = sym (get_or-set_other marks k u 1 0 (λ e. other marks k u h f.not_yet (sym e))) ∙ f.not_yet;
}

-- what was free before and is not k is free after it
later : (marks : List ℕ) (k u : ℕ) → (k ≡ u → ⊥) → Free marks u → Free (mark marks k) u
later marks k u n f = record {
  some = f.some;
  place = omega (arith, f.place, length-set marks k 1);
  not_yet = get_or-set_other marks k u 1 0 (λ e. n (sym e)) ∙ f.not_yet;
}

pub fresh_of : (ks marks : List ℕ) → fresh marks ks ≡ true → Fresh marks ks
fresh_of [] marks h = record { each = λ i l. absurd (not-suc-le-zero l); once = λ i j a b e. not-suc-le-zero b }
fresh_of (k ∷ ks) marks h =
    let a = (and-eq-true_iff (free marks k) (fresh (mark marks k) ks)).0 h in
    both (free_of marks k a.0) (fresh_of ks (mark marks k) a.1)
  where
    both : Free marks k → Fresh (mark marks k) ks → Fresh marks (k ∷ ks)
    both f r = record { each = each; once = once }
      where
        each : (i : ℕ) → i < suc (length ks) → Free marks (get_or (k ∷ ks) i 0)
        each zero l = f
        each (suc i) l = earlier marks k (get_or ks i 0) f.place (r.each i (le_of_suc-le-suc l))

        once : (i j : ℕ) → i < j → j < suc (length ks) → get_or (k ∷ ks) i 0 ≡ get_or (k ∷ ks) j 0 → ⊥
        once i zero a b e = not-suc-le-zero a
        once zero (suc j) a b e = other marks k (get_or ks j 0) f.place (r.each j (le_of_suc-le-suc b)).not_yet e
        once (suc i) (suc j) a b e = r.once i j (le_of_suc-le-suc a) (le_of_suc-le-suc b) e

pub is_fresh : (ks marks : List ℕ) → Fresh marks ks → fresh marks ks ≡ true
is_fresh [] marks f = refl
is_fresh (k ∷ ks) marks f =
    let a : free marks k ≡ true = is_free marks k (f.each 0 (omega arith)) in
    let b : fresh (mark marks k) ks ≡ true =
    is_fresh ks (mark marks k)
    (record {
      each = λ i l. later marks k (get_or ks i 0) (f.once 0 (suc i) (omega arith) (omega arith)) (f.each (suc i) (omega arith));
      once = λ i j l m e. f.once (suc i) (suc j) (omega arith) (omega arith) e;
    })
    in
    (and-eq-true_iff (free marks k) (fresh (mark marks k) ks)).1 (a, b)

-- marks of which none is set
abbrev clear : ℕ → List ℕ
clear n = replicate n 0

none_yet : (n u : ℕ) → get_or (clear n) u 0 ≡ 0
none_yet zero u = refl
none_yet (suc n) zero = refl
none_yet (suc n) (suc u) = none_yet n u

-- NOT TWICE: with no mark set at first, a walk passes exactly the numbers from 1 to the last place of which none comes twice
pub not_twice : (most : ℕ) (ks : List ℕ) → fresh (replicate (suc most) 0) ks ≡ true → Distinct most ks
not_twice most ks h =
    let f = fresh_of ks (replicate (suc most) 0) h in
    let n : length (clear (suc most)) ≡ suc most = length-replicate (suc most) 0 in
    record {
      range = λ i l. let e = f.each i l in (e.some, omega (arith, e.place, n));
      once = f.once;
    }

pub passed_over : (most : ℕ) (ks : List ℕ) → Distinct most ks → fresh (replicate (suc most) 0) ks ≡ true
passed_over most ks d =
    let n : length (clear (suc most)) ≡ suc most = length-replicate (suc most) 0 in
    is_fresh ks (replicate (suc most) 0)
    (record {
      each = λ i l. record { some = (d.range i l).0; place = omega (arith, (d.range i l).1, n); not_yet = none_yet (suc most) (get_or ks i 0) };
      once = d.once;
    })
