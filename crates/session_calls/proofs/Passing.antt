-- What a call answers, by laws that are said of the number of its refusal and of three things more. Assumes nothing.
use Rattle.std.specs.Prelude.{◌≡◌, ℕ, ◌<◌, Result, Ok, Err, IsErrAnd}
use Rattle.refusals.specs.Outcomes.{outcome_with}
use Rattle.book_calls.proofs.Passing.{passes_on, refuses, accepts}

pub passes_on_three : {A B P Q R : Type 0} {r : Result A ℕ} {s : Result B ℕ} {told m : ℕ} (n : ℕ) (x : A) (y : B) → r ≡ outcome_with n x → r ≡ Err told
    → IsErrAnd s (λ e. e ≡ told) → (told ≡ n → (told ≡ 0 → ⊥) → (told ≡ m) × P × Q × R) → (s ≡ outcome_with m y) × P × Q × R
passes_on_three {P = P} {Q} {R} n x y e g f law =
    let w = passes_on {P = P × (Q × R)} n x y e g f (λ z k. let v = law z k in (v.0, (v.1, (v.2, v.3)))) in
    (w.0, w.1.0, w.1.1.0, w.1.1.1)

pub refuses_with_three : {B P Q R : Type 0} {told k m : ℕ} (y : B) → told ≡ k → 0 < k → (k ≡ m) × P × Q × R → (Err told ≡ outcome_with m y) × P × Q × R
refuses_with_three y e h w = (refuses y e h w.0, w.1, w.2, w.3)

pub accepts_with_three : {B P Q R : Type 0} {m : ℕ} (y : B) → (0 ≡ m) × P × Q × R → (Ok y ≡ outcome_with m y) × P × Q × R
accepts_with_three y w = (accepts y w.0, w.1, w.2, w.3)
