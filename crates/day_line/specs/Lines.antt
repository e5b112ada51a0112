-- What a line carries between venue and member: bytes, what each message says, and what a login of ours is. Definitions alone. Assumes nothing.
use Rattle.std.specs.Prelude.{ℕ, ◌<◌, ◌≡◌, Bool, cond, ◌||◌, List, eqb, length, get_or}
use Rattle.wire.specs.Header.{type_of, unit_of, number_of}
use Rattle.wire.specs.Frame.{framed}
use Rattle.orders.specs.Shapes.{unsequenced}
use Rattle.table.specs.declared.Table.{Table}
use Rattle.table.specs.Table.{unit_refusal, last_of}
use Rattle.session_messages.specs.declared.Record.{Record}
use Rattle.session_messages.specs.Sessions as logins
use Rattle.session_logins.specs.declared.Bitfields.{Bitfields}
use Rattle.session_logins.specs.LoginRequests.{whole_table, login_record}
use Rattle.session_fields.specs.AskedFor.{asked_above}
use Rattle.messages.specs.Messages.{read_refusal}
use Rattle.day_model.specs.Model.{Msg, Sent, response, message, complete, aside, logout}
use Rattle.day_model.specs.Model as day
use Rattle.day_model.specs.Halves.{Line}

-- ---- what the venue sends

-- a message, by its unit and number; its bytes are kept whole
abbrev pub msg_of : List ℕ → Msg
msg_of b = record { unit = unit_of b; num = number_of b; body = b }

-- what bytes say, by their type: a Login Response and whether its status is A, Replay Complete, a Logout, what passes aside, which is a heartbeat or an
-- unsequenced message, a sequenced message
unfoldable pub says : List ℕ → Sent
says b =
    day.pick (eqb (type_of b) 0x24) (response (eqb (get_or b 10 0) 65))
    (day.pick (eqb (type_of b) 0x13) complete
    (day.pick (eqb (type_of b) 0x08) logout
    (day.pick (eqb (type_of b) 0x09 || unsequenced (type_of b)) aside
    (message (msg_of b)))))

-- a line carries whole messages that the reader from the venue takes
pub record Fine (b : List ℕ) : Type 0 where
  pub reads : read_refusal 1 b ≡ 0
  pub whole : framed b ≡ b

-- ---- what the member sends

-- the number above which a login asks for a unit's messages: the listed number; of an unlisted unit 0, and all are above it, if its flag is 0 or it has no
-- group of units, and else the highest, above which there is none. What is no unit counts as 0
unfoldable pub lists : List ℕ → ℕ → ℕ
lists b unit = cond (eqb (unit_refusal unit) 0) (asked_above (logins.record_of b) unit) 0

-- what a desk gives a login: the three names in 18 bytes, and the bitfields that it asks for; and, 02, request 6, whether the full list of units is asked
-- for by name, or no choice of them is given
pub record Fields : Type 0 where
  pub names : List ℕ
  pub long : length names ≡ 18
  pub acknowledgments : Bitfields
  pub executions : Bitfields
  pub full : Bool

-- the record of a login with the whole table, in that form
abbrev pub login_of_table : Table → Fields → Record
login_of_table table f = login_record table (whole_table f.full) f.names f.acknowledgments f.executions

-- a login of ours: what our writer writes of a whole table, in either form
pub record OurLogin (b : List ℕ) : Type 0 where
  pub table : Table
  pub fit : (u : ℕ) → last_of table u < 4294967296
  pub fields : Fields
  pub room : ℕ
  pub written : logins.record_refusal (login_of_table table fields) room ≡ 0
  pub is : b ≡ logins.session_bytes (login_of_table table fields)

-- the line of the day
abbrev pub our_line : Line
our_line = record {
  says = says;
  msg_of = msg_of;
  lists = lists;
  Fine = Fine;
  OurLogin = OurLogin;
}
