-- What a call answers that may be refused, by the number of its refusal: 0 is none. Definitions alone. Assumes nothing.
use Rattle.std.specs.Prelude.{ℕ, zero, suc, ⊤, Result, Ok, Err}

-- a value, or the refusal
unfoldable pub outcome_with : {A : Type 0} → ℕ → A → Result A ℕ
outcome_with zero x = Ok x
outcome_with (suc n) x = Err (suc n)

-- nothing, or the refusal
abbrev pub outcome : ℕ → Result ⊤ ℕ
outcome n = outcome_with n (record {})

-- the number back: 0 where the call is not refused
abbrev pub code_of : {A : Type 0} → Result A ℕ → ℕ
code_of (Ok _) = 0
code_of (Err refusal) = refusal

-- what a caller has after a call that may be refused: the value answered, or still the one that it gave
abbrev pub held_by : {A : Type 0} → A → Result A ℕ → A
held_by given (Ok x) = x
held_by given (Err refusal) = given
