-- What a call answers, by laws that are said of the number of its refusal. Assumes nothing.
use Rattle.std.specs.Prelude.{◌≡◌, refl, true, false, ℕ, zero, suc, ◌<◌, ⊤, Result, Ok, Err, IsErrAnd, is_ok, is_err}
use Rattle.std.proofs.Common.{sym, ap, ◌∙◌, arith}
use Rattle.refusals.specs.Outcomes.{outcome_with}
use Rattle.refusals.specs.OutcomeLaws.{good, bad}

-- a refusal that is passed on: where a law says of its number, which is not 0, that it is the one stated, and more, that refusal is answered, and more
pub passes_on : {A B P : Type 0} {r : Result A ℕ} {s : Result B ℕ} {told m : ℕ} (n : ℕ) (x : A) (y : B) → r ≡ outcome_with n x → r ≡ Err told
    → IsErrAnd s (λ e. e ≡ told) → (told ≡ n → (told ≡ 0 → ⊥) → (told ≡ m) × P) → (s ≡ outcome_with m y) × P
unfolding outcome_with
passes_on {told = told} {m} zero x y e g f law = absurd (cc (e, g))
passes_on {s = Ok t} (suc n) x y e g f law = absurd f
passes_on {s = Err t} {told = told} {m} (suc n) x y e g f law =
    let z : told ≡ suc n = cc (e, g) in
    let w = law z (λ k. cc (z, k)) in
    (ap Err f ∙ bad told y (λ k. cc (z, k)) ∙ ap (λ (i : ℕ). outcome_with i y) w.0, w.1)

-- a refusal of its own
pub refuses_with : {B P : Type 0} {told k m : ℕ} (y : B) → told ≡ k → 0 < k → (k ≡ m) × P → (Err told ≡ outcome_with m y) × P
refuses_with {told = told} {k} {m} y e h w = (bad told y (λ z. omega (arith, e, h, z)) ∙ ap (λ (i : ℕ). outcome_with i y) (e ∙ w.0), w.1)

-- none
pub accepts_with : {B P : Type 0} {m : ℕ} (y : B) → (0 ≡ m) × P → (Ok y ≡ outcome_with m y) × P
accepts_with {m = m} y w = (good m y (sym w.0), w.1)

-- what a last call answers
pub answers_as : {B P : Type 0} {r : Result B ℕ} {n m : ℕ} (y : B) → r ≡ outcome_with n y → (n ≡ m) × P → (r ≡ outcome_with m y) × P
answers_as y e w = (e ∙ ap (λ (i : ℕ). outcome_with i y) w.0, w.1)

-- ---- the same of a law that says two things more

pub passes_on_two : {A B P Q : Type 0} {r : Result A ℕ} {s : Result B ℕ} {told m : ℕ} (n : ℕ) (x : A) (y : B) → r ≡ outcome_with n x → r ≡ Err told
    → IsErrAnd s (λ e. e ≡ told) → (told ≡ n → (told ≡ 0 → ⊥) → (told ≡ m) × P × Q) → (s ≡ outcome_with m y) × P × Q
passes_on_two {P = P} {Q} n x y e g f law =
    let w = passes_on {P = P × Q} n x y e g f (λ z k. let v = law z k in (v.0, (v.1, v.2))) in
    (w.0, w.1.0, w.1.1)

pub refuses_with_two : {B P Q : Type 0} {told k m : ℕ} (y : B) → told ≡ k → 0 < k → (k ≡ m) × P × Q → (Err told ≡ outcome_with m y) × P × Q
refuses_with_two y e h w = ((refuses_with y e h (w.0, w.1)).0, w.1, w.2)

pub accepts_with_two : {B P Q : Type 0} {m : ℕ} (y : B) → (0 ≡ m) × P × Q → (Ok y ≡ outcome_with m y) × P × Q
accepts_with_two y w = ((accepts_with y (w.0, w.1)).0, w.1, w.2)

pub answers_as_two : {B P Q : Type 0} {r : Result B ℕ} {n m : ℕ} (y : B) → r ≡ outcome_with n y → (n ≡ m) × P × Q → (r ≡ outcome_with m y) × P × Q
answers_as_two y e w = ((answers_as y e (w.0, w.1)).0, w.1, w.2)

-- ---- the same where nothing but the answer is stated

pub passes : {A B : Type 0} {r : Result A ℕ} {s : Result B ℕ} {told m : ℕ} (n : ℕ) (x : A) (y : B) → r ≡ outcome_with n x → r ≡ Err told
    → IsErrAnd s (λ e. e ≡ told) → (told ≡ n → (told ≡ 0 → ⊥) → told ≡ m) → s ≡ outcome_with m y
passes n x y e g f law = (passes_on {P = ⊤} n x y e g f (λ z k. (law z k, record {}))).0

pub refuses : {B : Type 0} {told k m : ℕ} (y : B) → told ≡ k → 0 < k → k ≡ m → Err told ≡ outcome_with m y
refuses y e h w = (refuses_with {P = ⊤} y e h (w, record {})).0

pub accepts : {B : Type 0} {m : ℕ} (y : B) → 0 ≡ m → Ok y ≡ outcome_with m y
accepts {m = m} y w = good m y (sym w)

pub answers : {B : Type 0} {r : Result B ℕ} {n m : ℕ} (y : B) → r ≡ outcome_with n y → n ≡ m → r ≡ outcome_with m y
answers y e w = e ∙ ap (λ (i : ℕ). outcome_with i y) w

-- ---- an answer that is only tested

pub is_accepted : {A : Type 0} {r : Result A ℕ} (n : ℕ) (x : A) → r ≡ outcome_with n x → is_ok r ≡ true → n ≡ 0
unfolding outcome_with
is_accepted zero x e t = refl
is_accepted (suc n) x e t = absurd (cc (e, t))

pub isnt_accepted : {A : Type 0} {r : Result A ℕ} (n : ℕ) (x : A) → r ≡ outcome_with n x → is_ok r ≡ false → n ≡ 0 → ⊥
unfolding outcome_with
isnt_accepted zero x e t z = cc (e, t)
isnt_accepted (suc n) x e t z = cc z

pub is_refused : {A : Type 0} {r : Result A ℕ} (n : ℕ) (x : A) → r ≡ outcome_with n x → is_err r ≡ true → n ≡ 0 → ⊥
unfolding outcome_with
is_refused zero x e t z = cc (e, t)
is_refused (suc n) x e t z = cc z

pub isnt_refused : {A : Type 0} {r : Result A ℕ} (n : ℕ) (x : A) → r ≡ outcome_with n x → is_err r ≡ false → n ≡ 0
unfolding outcome_with
isnt_refused zero x e t = refl
isnt_refused (suc n) x e t = absurd (cc (e, t))
