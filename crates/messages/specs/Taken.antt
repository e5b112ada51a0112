-- What it is to be taken both ways, of a record and of a message; and session messages as bytes. Definitions alone. Assumes nothing.
use Rattle.std.specs.Prelude.{◌≡◌, List, ◌++◌, Bool, ◌&&◌, ◌||◌, ℕ, ◌+◌, ◌≤◌, eqb, length, take}
use Rattle.numbers.specs.Numbers.{patched}
use Rattle.wire.specs.Header.{header_bytes}
use Rattle.wire.specs.HeaderLaws.{Bytes}
use Rattle.block.specs.Sizes.{record_size}
use Rattle.session_messages.specs.Sizes.{session_record_size}
use Rattle.messages.specs.Messages.{carries, read_call, read_record, write_call, write_out}

-- an order's record that the writer takes; and the reader takes what it wrote, whatever the output buffer held, into any record's buffer, as the same
-- record
pub record TakenBothWays (direction : ℕ) (r out : List ℕ) : Type 0 where
  pub written : write_call direction r (length out) ≡ 0
  pub read : (buffer : List ℕ) → record_size ≤ length buffer → read_call direction (write_out direction r out) (length buffer) ≡ 0
  pub same : (buffer : List ℕ) → record_size ≤ length buffer → read_record direction (write_out direction r out) buffer ≡ patched buffer 0 (take record_size r)

-- a message that the reader takes, whatever follows it, into any record's buffer; and the writer takes that record into any buffer with room for the
-- message, as the same message
pub record TakenAsSaid (direction : ℕ) (m : List ℕ) : Type 0 where
  pub read : (t buffer : List ℕ) → session_record_size ≤ length buffer → read_call direction (m ++ t) (length buffer) ≡ 0
  pub written : (t buffer out : List ℕ) → Bytes t → session_record_size ≤ length buffer → length m ≤ length out → write_call direction (read_record direction (m ++ t) buffer) (length out) ≡ 0
  pub same : (t buffer out : List ℕ) → Bytes t → session_record_size ≤ length buffer → length m ≤ length out → write_out direction (read_record direction (m ++ t) buffer) out ≡ patched out 0 m

-- a session message of a type and a body b: unit and number 0
abbrev pub said : ℕ → List ℕ → List ℕ
said message b = header_bytes (8 + length b) message 0 0 ++ b

-- the messages that are a header alone, in a direction that has them: Client Heartbeat; Server Heartbeat and Replay Complete
abbrev pub header_of : ℕ → ℕ → Bool
header_of direction message = carries direction message && (eqb message 0x03 || (eqb message 0x09 || eqb message 0x13))
