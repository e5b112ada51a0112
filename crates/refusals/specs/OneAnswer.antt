-- A contract that is an equation with a definition leaves no second answer. Assumes nothing.
use Rattle.std.specs.Prelude.{◌≡◌}
use Rattle.std.proofs.Common.{sym, ◌∙◌}

-- two answers that both equal what the definition says are the same answer
pub one_answer : {A : Type 0} {stated a b : A} → a ≡ stated → b ≡ stated → a ≡ b
one_answer p q = p ∙ sym q

-- and so are two answers with the buffers that they leave
pub one_answer_and_buffer : {A B : Type 0} {stated a b : A} {left x y : B}
    → (a ≡ stated) × (x ≡ left) → (b ≡ stated) × (y ≡ left) → (a ≡ b) × (x ≡ y)
one_answer_and_buffer p q = (one_answer p.0 q.0, one_answer p.1 q.1)

-- and so are two answers with the two buffers that they leave
pub one_answer_and_two_buffers : {A B C : Type 0} {stated a b : A} {left x y : B} {kept v w : C}
    → (a ≡ stated) × (x ≡ left) × (v ≡ kept) → (b ≡ stated) × (y ≡ left) × (w ≡ kept) → (a ≡ b) × (x ≡ y) × (v ≡ w)
one_answer_and_two_buffers p q = (one_answer p.0 q.0, one_answer p.1 q.1, one_answer p.2 q.2)

-- ---- the same, said of a contract: of what a call may answer, and of what it may answer and leave in one buffer or in two

abbrev pub OneAnswer : {A : Type 0} → (A → Type 0) → Type 0
OneAnswer {A} P = (a b : A) → P a → P b → a ≡ b

abbrev pub OneAnswerAndBuffer : {A B : Type 0} → (A → B → Type 0) → Type 0
OneAnswerAndBuffer {A} {B} P = (a b : A) (x y : B) → P a x → P b y → (a ≡ b) × (x ≡ y)

abbrev pub OneAnswerAndTwoBuffers : {A B C : Type 0} → (A → B → C → Type 0) → Type 0
OneAnswerAndTwoBuffers {A} {B} {C} P = (a b : A) (x y : B) (v w : C) → P a x v → P b y w → (a ≡ b) × (x ≡ y) × (v ≡ w)
