-- What a call answers, by laws that are said of the number of its refusal. Assumes nothing.
use Rattle.std.specs.Prelude.{◌≡◌, refl, ℕ, zero, suc, ◌<◌, ⊤, Result, Ok, Err, IsErrAnd}
use Rattle.std.proofs.Common.{sym, ap, ◌∙◌, arith}
use Rattle.refusals.specs.Outcomes.{outcome_with}
use Rattle.refusals.specs.OutcomeLaws.{good, bad}
use Rattle.session.specs.Answer.{Answer}
use Rattle.session.specs.Sessions.{answer}
use Rattle.session.specs.declared.Session.{Session}

-- a refusal that is passed on: where a law says of its number, which is not 0, that it is the one stated, and more, that refusal is answered, and more
pub passes_on : {A B P : Type 0} {r : Result A ℕ} {s : Result B ℕ} {told m : ℕ} (n : ℕ) (x : A) (y : B) → r ≡ outcome_with n x → r ≡ Err told
    → IsErrAnd s (λ e. e ≡ told) → (told ≡ n → (told ≡ 0 → ⊥) → (told ≡ m) × P) → (s ≡ outcome_with m y) × P
unfolding outcome_with
passes_on {told = told} {m} zero x y e g f law = absurd (cc (e, g))
passes_on {s = Ok t} (suc n) x y e g f law = absurd f
passes_on {s = Err t} {told = told} {m} (suc n) x y e g f law =
    let z : told ≡ suc n = cc (e, g) in
    let w = law z (λ k. cc (z, k)) in
    (ap Err f ∙ bad told y (λ k. cc (z, k)) ∙ ap (λ (i : ℕ). outcome_with i y) w.0, w.1)

-- a refusal of its own
pub refuses_with : {B P : Type 0} {told k m : ℕ} (y : B) → told ≡ k → 0 < k → (k ≡ m) × P → (Err told ≡ outcome_with m y) × P
refuses_with {told = told} {k} {m} y e h w = (bad told y (λ z. omega (arith, e, h, z)) ∙ ap (λ (i : ℕ). outcome_with i y) (e ∙ w.0), w.1)

-- ---- the same where nothing but the answer is stated

pub passes : {A B : Type 0} {r : Result A ℕ} {s : Result B ℕ} {told m : ℕ} (n : ℕ) (x : A) (y : B) → r ≡ outcome_with n x → r ≡ Err told
    → IsErrAnd s (λ e. e ≡ told) → (told ≡ n → (told ≡ 0 → ⊥) → told ≡ m) → s ≡ outcome_with m y
passes n x y e g f law = (passes_on {P = ⊤} n x y e g f (λ z k. (law z k, record {}))).0

pub refuses : {B : Type 0} {told k m : ℕ} (y : B) → told ≡ k → 0 < k → k ≡ m → Err told ≡ outcome_with m y
refuses y e h w = (refuses_with {P = ⊤} y e h (w, record {})).0

pub accepts : {B : Type 0} {m : ℕ} (y : B) → 0 ≡ m → Ok y ≡ outcome_with m y
accepts {m = m} y w = good m y (sym w)

pub answers : {B : Type 0} {r : Result B ℕ} {n m : ℕ} (y : B) → r ≡ outcome_with n y → n ≡ m → r ≡ outcome_with m y
answers y e w = e ∙ ap (λ (i : ℕ). outcome_with i y) w

-- ---- of a call of the session, whose law says which answer it gives

-- a refusal that is passed on
pub passes_answer : {A P : Type 0} {r : Result A ℕ} {t : Result Session ℕ} {told : ℕ} {s : Session} {a : Answer} (n : ℕ) (x : A) → r ≡ outcome_with n x → r ≡ Err told
    → IsErrAnd t (λ e. e ≡ told) → (told ≡ n → (told ≡ 0 → ⊥) → (answer told s ≡ a) × P) → (t ≡ outcome_with a.refusal a.session) × P
passes_answer {a = a} n x e g f law = passes_on n x a.session e g f (λ z k. let w = law z k in (ap (λ (b : Answer). b.refusal) w.0, w.1))

-- a refusal of its own
pub refuses_answer : {P : Type 0} {told k : ℕ} {s : Session} {a : Answer} → told ≡ k → 0 < k → (answer k s ≡ a) × P → (Err told ≡ outcome_with a.refusal a.session) × P
refuses_answer {a = a} e h w = refuses_with a.session e h (ap (λ (b : Answer). b.refusal) w.0, w.1)

-- none
pub accepts_answer : {P : Type 0} {s : Session} {a : Answer} → (answer 0 s ≡ a) × P → (Ok s ≡ outcome_with a.refusal a.session) × P
accepts_answer {s = s} w = (good 0 s refl ∙ ap (λ (b : Answer). outcome_with b.refusal b.session) w.0, w.1)

-- what a last call answers
pub answers_answer : {P : Type 0} {t : Result Session ℕ} (b : Answer) {a : Answer} → t ≡ outcome_with b.refusal b.session → (b ≡ a) × P → (t ≡ outcome_with a.refusal a.session) × P
answers_answer b e w = (e ∙ ap (λ (c : Answer). outcome_with c.refusal c.session) w.0, w.1)
