-- What a session message is, and its type's byte. Definitions alone. Assumes nothing.
use Rattle.std.specs.Prelude.{ℕ, cond, eqb, Option, Some, None}
use Rattle.session_messages.specs.declared.Message.{Message}
use Rattle.session_messages.specs.declared.Message.TheVariants.{LoginRequest, ClientHeartbeat, LoginResponse, Logout, ServerHeartbeat, ReplayComplete}

-- the type of each
abbrev pub type_byte : Message → ℕ
type_byte LoginRequest = 0x37
type_byte ClientHeartbeat = 0x03
type_byte LoginResponse = 0x24
type_byte Logout = 0x08
type_byte ServerHeartbeat = 0x09
type_byte ReplayComplete = 0x13

-- what a message of a type is
unfoldable pub message_at : ℕ → Option Message
message_at t =
    cond (eqb t 0x37) (Some LoginRequest)
    (cond (eqb t 0x03) (Some ClientHeartbeat)
    (cond (eqb t 0x24) (Some LoginResponse)
    (cond (eqb t 0x08) (Some Logout)
    (cond (eqb t 0x09) (Some ServerHeartbeat)
    (cond (eqb t 0x13) (Some ReplayComplete)
    None)))))

-- one that is there, or the last
abbrev pub or_last : Option Message → Message
or_last None = ReplayComplete
or_last (Some message) = message

-- the same of a type that is known
unfoldable pub message_as : ℕ → Message
message_as t = or_last (message_at t)
