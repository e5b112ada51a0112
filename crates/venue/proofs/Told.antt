-- What a call that may be refused tells the call over it. Assumes nothing.
use Rattle.std.specs.Prelude.{◌≡◌, refl, Bool, true, false, ℕ, zero, suc, eqb, Result, Ok, Err, IsErrAnd}
use Rattle.std.specs.Result.{is_ok}
use Rattle.std.proofs.Common.{sym, ap, ◌∙◌, ne_eqb}
use borrow.Author.Tests.{eqb-true, eqb-false}
use Rattle.refusals.specs.Outcomes.{outcome_with}
use Rattle.refusals.specs.OutcomeLaws.{refused_some}

-- a refusal that is passed on, whatever value would have come
pub told_on : {A B : Type 0} {r : Result A ℕ} {told : ℕ} (n : ℕ) (x : A) (y : B) → r ≡ outcome_with n x → r ≡ Err told → Err told ≡ outcome_with n y
unfolding outcome_with
told_on zero x y e g = absurd (cc (e, g))
told_on (suc n) x y e g = cc (e, g)

-- and that is not 0
pub some : {A : Type 0} {r : Result A ℕ} {told : ℕ} (n : ℕ) (x : A) → r ≡ outcome_with n x → r ≡ Err told → n ≡ 0 → ⊥
some n x e g = eqb-false n 0 (refused_some n x e g)

-- as a `?` passes it on, alone and with what else is told of the call
pub pass : {A : Type 0} {s y : Result A ℕ} {told : ℕ} → IsErrAnd s (λ e. e ≡ told) → Err told ≡ y → s ≡ y
pass {s = Ok x} f k = absurd f
pass {s = Err n} f k = ap (λ (m : ℕ). Err m) f ∙ k

pub passes : {A P : Type 0} {s y : Result A ℕ} {told : ℕ} → IsErrAnd s (λ e. e ≡ told) → (Err told ≡ y) × P → (s ≡ y) × P
passes f k = (pass f k.0, k.1)

-- whether a call is refused, as a function that asks it has it
module _ {A : Type 0} {r : Result A ℕ} {b : Bool} (n : ℕ) (x : A) (e : r ≡ outcome_with n x) (f : b ≡ is_ok r) where
  asked : b ≡ eqb n 0
  unfolding outcome_with
  asked = f ∙ ap is_ok e ∙ by n
    where
      by : (m : ℕ) → is_ok (outcome_with m x) ≡ eqb m 0
      by zero = refl
      by (suc m) = sym (ne_eqb (suc m) 0 (λ z. cc z))

  pub took : b ≡ true → n ≡ 0
  took g = eqb-true n 0 (sym asked ∙ g)

  pub stopped : b ≡ false → n ≡ 0 → ⊥
  stopped g = eqb-false n 0 (sym asked ∙ g)
