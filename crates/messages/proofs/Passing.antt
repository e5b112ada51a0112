-- What a call answers, by laws that are said of the number of its refusal. Assumes nothing.
use Rattle.std.specs.Prelude.{◌≡◌, ℕ, zero, suc, ◌<◌, Result, Ok, Err, IsErrAnd}
use Rattle.std.proofs.Common.{sym, ap, ◌∙◌, arith}
use Rattle.refusals.specs.Outcomes.{outcome_with}
use Rattle.refusals.specs.OutcomeLaws.{good, bad}

-- a refusal that is passed on: where a law says of its number, which is not 0, that it is the one stated, and more, that refusal is answered, and more
pub passes_on : {A B P : Type 0} {r : Result A ℕ} {s : Result B ℕ} {told m : ℕ} (n : ℕ) (x : A) (y : B) → r ≡ outcome_with n x → r ≡ Err told
    → IsErrAnd s (λ e. e ≡ told) → (told ≡ n → (told ≡ 0 → ⊥) → (told ≡ m) × P) → (s ≡ outcome_with m y) × P
unfolding outcome_with
passes_on {told = told} {m} zero x y e g f law = absurd (cc (e, g))
passes_on {s = Ok t} (suc n) x y e g f law = absurd f
passes_on {s = Err t} {told = told} {m} (suc n) x y e g f law =
    let z : told ≡ suc n = cc (e, g) in
    let w = law z (λ k. cc (z, k)) in
    (ap Err f ∙ bad told y (λ k. cc (z, k)) ∙ ap (λ (i : ℕ). outcome_with i y) w.0, w.1)

-- a refusal of its own
pub refuses_with : {B P : Type 0} {told k m : ℕ} (y : B) → told ≡ k → 0 < k → (k ≡ m) × P → (Err told ≡ outcome_with m y) × P
refuses_with {told = told} {k} {m} y e h w = (bad told y (λ z. omega (arith, e, h, z)) ∙ ap (λ (i : ℕ). outcome_with i y) (e ∙ w.0), w.1)

-- none
pub accepts_with : {B P : Type 0} {m : ℕ} (y : B) → (0 ≡ m) × P → (Ok y ≡ outcome_with m y) × P
accepts_with {m = m} y w = (good m y (sym w.0), w.1)

-- what a last call answers
pub answers_as : {B P : Type 0} {r : Result B ℕ} {n m : ℕ} (y : B) → r ≡ outcome_with n y → (n ≡ m) × P → (r ≡ outcome_with m y) × P
answers_as y e w = (e ∙ ap (λ (i : ℕ). outcome_with i y) w.0, w.1)
