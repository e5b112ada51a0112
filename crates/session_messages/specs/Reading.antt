-- What reading a session message answers, by the number of its refusal. Definitions alone. Assumes nothing.
use Rattle.std.specs.Prelude.{ℕ}
use Rattle.session_messages.specs.declared.Record.{Record}

-- 0 and the record, or the refusal and the blank record; a call answers the record or the refusal
pub record Reading : Type 0 where
  pub refusal : ℕ
  pub session : Record
