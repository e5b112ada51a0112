-- The size of a session message's record as bytes, once. Definitions alone. Assumes nothing.
use Rattle.std.specs.Prelude.{ℕ}

-- type, unit, number, and the body's 433 bytes
abbrev pub session_record_size : ℕ
session_record_size = 439
