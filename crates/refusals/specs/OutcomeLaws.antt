-- Laws of what a call answers: what an answer that is good, or refused, says of the number; and how a refusal is passed on. Assumes nothing.
use Rattle.std.specs.Prelude.{◌≡◌, refl, ℕ, zero, suc, cond, false, eqb, Result, Ok, Err}
use Rattle.std.proofs.Common.{sym, ap, ◌∙◌, ne_eqb}
use Rattle.refusals.specs.Outcomes.{outcome_with, code_of, held_by}

-- the number of an answer is the number that it is from
pub code_back : {A : Type 0} (n : ℕ) (x : A) → code_of (outcome_with n x) ≡ n
unfolding outcome_with
code_back zero x = refl
code_back (suc n) x = refl

-- and so it is of any answer that is what a contract says
pub code_is : {A : Type 0} {r : Result A ℕ} (n : ℕ) (x : A) → r ≡ outcome_with n x → code_of r ≡ n
code_is n x e = ap code_of e ∙ code_back n x

-- and what its caller then has is the value stated, where the one stated of a refusal is the one given
pub held : {A : Type 0} {r : Result A ℕ} {given : A} (n : ℕ) (x : A) → r ≡ outcome_with n x → (eqb n 0 ≡ false → x ≡ given) → held_by given r ≡ x
unfolding outcome_with
held {given = given} zero x e k = ap (held_by given) e
held {given = given} (suc n) x e k = ap (held_by given) e ∙ sym (k (ne_eqb (suc n) 0 (λ z. cc z)))

-- a call that is not refused: the number is 0
pub passed : {A : Type 0} {r : Result A ℕ} {y : A} (n : ℕ) (x : A) → r ≡ outcome_with n x → r ≡ Ok y → n ≡ 0
passed n x e g = sym (code_back n x) ∙ ap code_of (sym e ∙ g)

-- and the value is the one stated
pub value_of : {A : Type 0} {r : Result A ℕ} {y : A} (n : ℕ) (x : A) → r ≡ outcome_with n x → r ≡ Ok y → y ≡ x
unfolding outcome_with
value_of zero x e g = cc (e, g)
value_of (suc n) x e g = absurd (cc (e, g))

-- a call that is refused: the refusal is the number
pub refused : {A : Type 0} {r : Result A ℕ} {told : ℕ} (n : ℕ) (x : A) → r ≡ outcome_with n x → r ≡ Err told → n ≡ told
refused n x e g = sym (code_back n x) ∙ ap code_of (sym e ∙ g)

-- which is not 0
pub refused_some : {A : Type 0} {r : Result A ℕ} {told : ℕ} (n : ℕ) (x : A) → r ≡ outcome_with n x → r ≡ Err told → eqb n 0 ≡ false
unfolding outcome_with
refused_some zero x e g = absurd (cc (e, g))
refused_some (suc n) x e g = ne_eqb (suc n) 0 (λ z. cc z)

-- a refusal is passed on, whatever would have come after it
pub passed_on : {A B : Type 0} {r : Result A ℕ} {told : ℕ} (n : ℕ) (x : A) (next : ℕ) (y : B) → r ≡ outcome_with n x → r ≡ Err told → Err told ≡ outcome_with (cond (eqb n 0) next n) y
unfolding outcome_with
passed_on zero x next y e g = absurd (cc (e, g))
passed_on (suc n) x next y e g = rw (ne_eqb (suc n) 0 (λ z. cc z)) (cc (e, g))

-- and what comes after a call that is not refused is what counts
pub goes_on : {A B : Type 0} {r : Result A ℕ} {z : A} (n : ℕ) (x : A) (next : ℕ) (y : B) → r ≡ outcome_with n x → r ≡ Ok z → outcome_with (cond (eqb n 0) next n) y ≡ outcome_with next y
unfolding outcome_with
goes_on zero x next y e g = refl
goes_on (suc n) x next y e g = absurd (cc (e, g))

-- what is answered of a number that is 0, and of one that is not
pub good : {A : Type 0} (n : ℕ) (x : A) → n ≡ 0 → Ok x ≡ outcome_with n x
unfolding outcome_with
good zero x z = refl
good (suc n) x z = absurd (cc z)

pub bad : {A : Type 0} (n : ℕ) (x : A) → (n ≡ 0 → ⊥) → Err n ≡ outcome_with n x
unfolding outcome_with
bad zero x h = absurd (h refl)
bad (suc n) x h = refl
