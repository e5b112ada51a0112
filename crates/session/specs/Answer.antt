-- What a call of the session answers: its refusal, 0 where there is none, and the state after it, which is as it was where there is one. Definitions alone.
-- Assumes nothing.
use Rattle.std.specs.Prelude.{ℕ}
use Rattle.session.specs.declared.Session.{Session}
use Rattle.session.specs.declared.Told.{Told}

pub record Answer : Type 0 where
  pub refusal : ℕ
  pub session : Session

-- what receiving answers: what became of the message too
pub record Received : Type 0 where
  pub refusal : ℕ
  pub told : Told
  pub session : Session
