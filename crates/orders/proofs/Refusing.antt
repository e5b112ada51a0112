-- What a call answers, by what is known of the number that its contract says. Assumes nothing.
use Rattle.std.specs.Prelude.{◌≡◌, refl, ℕ, suc, ⊤, ◌<◌, Bool, true, false, cond, not, eqb, Result, Ok, Err, IsErrAnd}
use Rattle.std.proofs.Common.{ap, sym, ◌∙◌, ne_eqb, eqb-true, arith, true≢false}
use Rattle.refusals.specs.Names.{bad_value}
use Rattle.refusals.specs.Told.{told}
use Rattle.refusals.specs.Outcomes.{outcome}
use Rattle.refusals.specs.OutcomeLaws.{good, bad, refused, refused_some}
use Rattle.orders.specs.Rests.{bad_at}

-- a refusal, whose number is not 0
pub tells : {r n : ℕ} → r ≡ n → (r ≡ 0 → ⊥) → Err r ≡ outcome n
tells {r} {n} e h = ap (λ (k : ℕ). Err k) e ∙ bad n (record {}) (λ z. h (e ∙ z))

-- a refusal with a place
pub tells_at : (number place : ℕ) {r n : ℕ} → r ≡ told (suc number) place → told (suc number) place ≡ n → Err r ≡ outcome n
tells_at number place e f = tells (e ∙ f) (λ z. omega (arith, e, z))

-- none
pub tells_none : {n : ℕ} → 0 ≡ n → Ok (record {}) ≡ outcome n
tells_none {n} e = good n (record {}) (sym e)

-- a refusal that a call gave, and that `?` passes on, is the number that the law of a refused call says, which may say more
pub passes_with : {P : Type 0} {r s : Result ⊤ ℕ} {t m : ℕ} (n : ℕ) → r ≡ outcome n → r ≡ Err t → IsErrAnd s (λ u. u ≡ t) → ((n ≡ 0 → ⊥) → (n ≡ m) × P) → (s ≡ outcome m) × P
passes_with {s = Ok u} n e g f law = absurd f
passes_with {s = Err u} n e g f law =
    let k = refused n (record {}) e g in
    let w = law some in
    (tells (f ∙ sym k ∙ w.0) (λ z. some (k ∙ sym f ∙ z)), w.1)
  where
    some : n ≡ 0 → ⊥
    some z = true≢false (sym (ap (λ (i : ℕ). eqb i 0) z) ∙ refused_some n (record {}) e g)

pub passes : {r s : Result ⊤ ℕ} {t m : ℕ} (n : ℕ) → r ≡ outcome n → r ≡ Err t → IsErrAnd s (λ u. u ≡ t) → ((n ≡ 0 → ⊥) → n ≡ m) → s ≡ outcome m
passes n e g f law = (passes_with {P = ⊤} n e g f (λ z. (law z, record {}))).0

-- ---- 10 at the place of a field of the fixed part

pub bad_told : {r : ℕ} (place : ℕ) → r ≡ told bad_value place → 0 < place → Err r ≡ outcome (bad_at place)
bad_told {r} place e h = rw (ne_eqb place 0 (λ z. omega (arith, h, z))) (tells_at 9 place e refl)

-- where the fixed part is not refused, no place is told
pub none_told : (place : ℕ) → bad_at place ≡ 0 → place ≡ 0
none_told place z = by (eqb place 0) refl z
  where
    by : (b : Bool) → eqb place 0 ≡ b → cond b 0 (told bad_value place) ≡ 0 → place ≡ 0
    by true e z = eqb-true place 0 e
    by false e z = absurd (omega (arith, z))

-- where it is, that is what a test of the place tells, whatever would come after it
pub told_first : (place rest : ℕ) → (bad_at place ≡ 0 → ⊥) → bad_at place ≡ cond (not (eqb place 0)) (told bad_value place) rest
told_first place rest h = by (eqb place 0) h
  where
    by : (b : Bool) → (cond b 0 (told bad_value place) ≡ 0 → ⊥) → cond b 0 (told bad_value place) ≡ cond (not b) (told bad_value place) rest
    by true h = absurd (h refl)
    by false h = refl
