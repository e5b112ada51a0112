-- Whether a call that may be refused is not, by the number of its refusal. Assumes nothing.
use Rattle.std.specs.Prelude.{ℕ, zero, suc, ◌≡◌, refl, Bool, true, false, Result, eqb}
use Rattle.std.specs.Result.{is_ok}
use Rattle.std.proofs.Common.{sym, ap, ◌∙◌, ne_eqb}
use borrow.Author.Tests.{eqb-true, eqb-false}
use Rattle.refusals.specs.Outcomes.{outcome_with}

pub accepts : {A : Type 0} (n : ℕ) (x : A) → is_ok (outcome_with n x) ≡ eqb n 0
unfolding outcome_with
accepts zero x = refl
accepts (suc n) x = sym (ne_eqb (suc n) 0 (λ z. cc z))

-- as a function that asks `is_ok` has it: the number is 0, or it is not
module _ {A : Type 0} {r : Result A ℕ} {b : Bool} (n : ℕ) (x : A) (e : r ≡ outcome_with n x) (f : b ≡ is_ok r) where
  asked : b ≡ eqb n 0
  asked = f ∙ ap is_ok e ∙ accepts n x

  pub took : b ≡ true → n ≡ 0
  took g = eqb-true n 0 (sym asked ∙ g)

  pub stopped : b ≡ false → n ≡ 0 → ⊥
  stopped g = eqb-false n 0 (sym asked ∙ g)
