-- What a call that may be refused tells the call over it, by the number of its refusal; and values that are tested one after the other. Assumes nothing.
use Rattle.std.specs.Prelude.{◌≡◌, refl, Bool, true, false, cond, List, ℕ, zero, suc, ◌-◌, ◌<◌, eqb, ⊤, Some, Result, Ok, Err, IsErrAnd}
use Rattle.std.specs.Option.{ok_or}
use Rattle.std.proofs.Common.{true≢false, ap, sym, ◌∙◌, arith, eq-eqb, ne_eqb}
use Rattle.refusals.specs.Names.{bad_value, bad_group}
use Rattle.refusals.specs.Told.{told}
use Rattle.refusals.specs.FirstBad.{Tested, first_bad}
use Rattle.refusals.specs.Outcomes.{outcome_with, outcome}
use Rattle.refusals.specs.OutcomeLaws.{passed, refused, refused_some, bad}
use Rattle.session_groups.specs.Answers.{end_of}
use Rattle.session_messages.specs.ValueFields.{value_fields, values_wrong, told_bad}
use Rattle.session_messages.specs.Sessions.{values_refusal}
use Rattle.session_messages.proofs.ValueFieldLaws.{values-found}

-- ---- stages: a number m is that of the first stage, or what comes after it

-- a refusal that is passed on, as it is
pub same : {A B : Type 0} {r : Result A ℕ} {s : Result B ℕ} {t : ℕ} (n : ℕ) (x : A) (y : B) → r ≡ outcome_with n x → r ≡ Err t → IsErrAnd s (λ u. u ≡ t) → s ≡ outcome_with n y
same {s = Ok z} n x y e g f = absurd f
same {s = Err u} {t = t} n x y e g f = ap Err (f ∙ sym (refused n x e g)) ∙ bad n y (λ z. true≢false (sym (eq-eqb n 0 z) ∙ refused_some n x e g))

-- one before the next stage
pub stops : {A B : Type 0} {r : Result A ℕ} {s : Result B ℕ} {t m : ℕ} (n : ℕ) (x : A) (y : B) (next : ℕ) → r ≡ outcome_with n x → r ≡ Err t → IsErrAnd s (λ u. u ≡ t) → m ≡ cond (eqb n 0) next n
    → s ≡ outcome_with m y
stops n x y next e g f q = same n x y e g f ∙ ap (λ (k : ℕ). outcome_with k y) (sym (q ∙ ap (λ (b : Bool). cond b next n) (refused_some n x e g)))

-- which is not 0
pub some : {A : Type 0} {r : Result A ℕ} {t m : ℕ} (n : ℕ) (x : A) (next : ℕ) → r ≡ outcome_with n x → r ≡ Err t → m ≡ cond (eqb n 0) next n → m ≡ 0 → ⊥
some {m = m} n x next e g q z =
    let k : m ≡ n = q ∙ ap (λ (b : Bool). cond b next n) (refused_some n x e g) in
    true≢false (sym (eq-eqb n 0 (sym k ∙ z)) ∙ refused_some n x e g)

-- after a call that is not refused the next stage decides
pub goes : {A : Type 0} {r : Result A ℕ} {z : A} {m next : ℕ} (n : ℕ) (x : A) → r ≡ outcome_with n x → r ≡ Ok z → m ≡ cond (eqb n 0) next n → m ≡ next
goes {next = next} n x e g q = q ∙ ap (λ (b : Bool). cond b next n) (eq-eqb n 0 (passed n x e g))

-- a refusal of its own
pub refuses : {B : Type 0} {t k m : ℕ} (y : B) → t ≡ k → 0 < k → m ≡ k → Err t ≡ outcome_with m y
refuses {t = t} y e h w = bad t y (λ z. omega (arith, e, h, z)) ∙ ap (λ (i : ℕ). outcome_with i y) (e ∙ sym w)

-- one that is passed on from what is no call of this crate
pub refuses_on : {B : Type 0} {s : Result B ℕ} {t k m : ℕ} (y : B) → IsErrAnd s (λ u. u ≡ t) → t ≡ k → 0 < k → m ≡ k → s ≡ outcome_with m y
refuses_on {s = Ok z} y f e h w = absurd f
refuses_on {s = Err u} y f e h w = refuses y (f ∙ e) h w

-- a number that is told by bytes or none
pub ends_at : (n : ℕ) {x : ℕ} → Some x ≡ end_of n → n ≡ suc x
ends_at zero e = absurd (cc e)
ends_at (suc n) e = cc e

pub ends_or : (n : ℕ) → ok_or (end_of n) bad_group ≡ outcome_with (cond (eqb n 0) bad_group 0) (n - 1)
unfolding outcome_with
ends_or zero = refl
ends_or (suc n) = let k : n ≡ suc n - 1 = omega arith in rw (ne_eqb (suc n) 0 (λ z. cc z)) (ap Ok k)

-- ---- values

told_at : (place : ℕ) → 0 < place → told_bad place ≡ told bad_value place
unfolding told_bad
told_at place h = rw (ne_eqb place 0 (λ z. omega (arith, h, z)))

pub field_last : (good : Bool) (place : ℕ) → 0 < place → outcome (cond good 0 (told bad_value place)) ≡ outcome (told_bad (cond good 0 place))
unfolding told_bad
field_last true place h = refl
field_last false place h = ap outcome (sym (told_at place h))

pub field_stops : {r s : Result ⊤ ℕ} {t : ℕ} (good : Bool) (place rest : ℕ) → 0 < place → r ≡ outcome (cond good 0 (told bad_value place)) → r ≡ Err t → IsErrAnd s (λ u. u ≡ t)
    → s ≡ outcome (told_bad (cond good rest place))
field_stops true place rest h e g f = absurd (true≢false (refused_some 0 _ e g))
field_stops false place rest h e g f = same (told bad_value place) _ _ e g f ∙ ap outcome (sym (told_at place h))

pub field_goes : {r : Result ⊤ ℕ} {y : ⊤} (good : Bool) (place rest : ℕ) → r ≡ outcome (cond good 0 (told bad_value place)) → r ≡ Ok y → outcome (told_bad (cond good rest place)) ≡ outcome (told_bad rest)
field_goes true place rest e g = refl
field_goes false place rest e g = absurd (omega (arith, passed (told bad_value place) _ e g))

-- the first bad value is told where the values are not good
values_told : (message : ℕ) (b : List ℕ) → told_bad (values_wrong message b) ≡ values_refusal message b
unfolding told_bad values_refusal
values_told message b = rw (values-found message b) refl

-- and the values are those of the type
pub fields_told : (message : ℕ) (b : List ℕ) (fs : List Tested) → value_fields message b ≡ fs → told_bad (first_bad fs) ≡ values_refusal message b
unfolding values_wrong
fields_told message b fs e = ap (λ (l : List Tested). told_bad (first_bad l)) (sym e) ∙ values_told message b
