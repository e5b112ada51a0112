-- The member in the day of demand 3 as a program that makes the session's calls over bytes: what it holds is the state's buffer and the bytes of its book,
-- and every step is one of the calls. 02, request 4: the market of the opening and of each restart is any. Definitions alone. Assumes nothing.
use Rattle.std.specs.Prelude.{ℕ, ◌≡◌, Bool, true, false, List, [], ◌≤◌, eqb, length, get_or, take}
use Rattle.std.proofs.Common.{arith, length-take-le}
use Rattle.numbers.specs.Numbers.{number_at}
use Rattle.wire.specs.Frame.{framed}
use Rattle.block.specs.Slots.{zeros}
use Rattle.table.specs.Table.{last_of}
use Rattle.session_logins.specs.LoginRequests.{all_units}
use Rattle.book_calls.specs.BookBytes.{book_of}
use Rattle.day_model.specs.Halves.{MemberCode}
use Rattle.day_line.specs.Lines.{Fields}
use Rattle.day_line.specs.Lent.{lent, kept}
use Rattle.session.specs.MemberDay.{Desk, phase_of, refused_for_room}
use Rattle.session_calls.specs.LoginBytes.{login_size, names_in, bits_in, choice_in}
use Rattle.session_calls.specs.SessionBytes.{session_of, open_call_buffer, open_call_state, restart_call, restart_call_state, login_call, login_call_out, login_call_state, receive_call_buffer, receive_call_state, order_call_state, break_call_buffer, break_call_state}

-- the state's buffer, and the bytes that the book holds
pub record Program : Type 0 where
  pub state : List ℕ
  pub bytes : List ℕ

-- the book's length, as the state has it
abbrev pub length_in : List ℕ → ℕ
length_in state = number_at 4 132 state

-- the program after a call that was lent the state and the book's buffer: it keeps as many bytes as the state tells
abbrev pub program_after : List ℕ → ℕ → List ℕ → List ℕ → Program
program_after state room buffer bytes = record { state = state; bytes = kept (length_in state) room buffer bytes }

-- opening for a market and the day, with room for the mark, in a state's buffer in which anything may stand
abbrev pub opened : ℕ → ℕ → List ℕ → Program
opened market date old =
    record { state = open_call_state date market 16 old; bytes = take (length_in (open_call_state date market 16 old)) (open_call_buffer date (zeros 16) old) }

-- a message from the venue, with a buffer lent for the book
abbrev pub gets : ℕ → List ℕ → Program → Program
gets room b p = program_after (receive_call_state b room p.state) room (receive_call_buffer b (lent room p.bytes) p.state) p.bytes

-- a break
abbrev pub ended : ℕ → Program → Program
ended room p = program_after (break_call_state room p.state) room (break_call_buffer (lent room p.bytes) p.state) p.bytes

-- what a login is given, 87 bytes: with the whole table, in the form that no choice makes, whatever stands after its byte, or with the full list by name
abbrev pub WholeIn : Bool → List ℕ → Type 0
WholeIn true g = choice_in g ≡ all_units
WholeIn false g = get_or g 52 0 ≡ 0

pub record Given : Type 0 where
  pub bytes : List ℕ
  pub long : login_size ≤ length bytes
  pub full : Bool
  pub whole : WholeIn full bytes

-- the fields that the bytes are
abbrev pub fields_of : Given → Fields
fields_of g = record {
  names = names_in g.bytes;
  long = length-take-le 18 g.bytes (omega (arith, g.long));
  acknowledgments = bits_in 18 g.bytes;
  executions = bits_in 35 g.bytes;
  full = g.full;
}

-- a login, into a buffer in which anything may stand: whether it is written, the program after it, and what goes onto the line
abbrev pub writes : Given → List ℕ → Program → Bool
writes g out p = eqb (login_call g.bytes (length out) p.state) 0

abbrev pub login : Given → List ℕ → Program → Program
login g out p = record { state = login_call_state g.bytes (length out) p.state; bytes = p.bytes }

abbrev pub login_bytes : Given → List ℕ → Program → List ℕ
login_bytes g out p = framed (login_call_out g.bytes out p.state)

-- an order goes out; a heartbeat changes no state
abbrev pub sends : ℕ → List ℕ → Program → Program
sends room given p = record { state = order_call_state given room p.state; bytes = p.bytes }

-- one of two, by a test
abbrev pub pick_program : Bool → Program → Program → Program
pick_program true a b = a
pick_program false a b = b

-- after a restart with this refusal from these bytes, for a market, in a state's buffer in which anything may stand, as in a program that was started
-- again: accepted, or 22 and the opening; a book that is refused leaves nothing to run
unfoldable pub restarted_with : ℕ → ℕ → List ℕ → ℕ → List ℕ → Program
restarted_with market date old refusal bytes =
    pick_program (eqb refusal 0) (record { state = restart_call_state date market bytes old; bytes = take (length_in (restart_call_state date market bytes old)) bytes })
    (pick_program (eqb refusal 22) (opened market date old)
    (record { state = old; bytes = [] }))

-- a cut that keeps the first k bytes, and the restart for the day and a market
abbrev pub restart : ℕ → List ℕ → ℕ → ℕ → Program → Program
restart date old market k p = restarted_with market date old (restart_call date (take k p.bytes) old) (take k p.bytes)

-- the session that the program has, and its book's bytes
abbrev pub desk_of : Program → Desk
desk_of p = record { session = session_of p.state; bytes = p.bytes }

-- the program's part in the day: the market given is that of the first opening, and each restart names its own; `old` is what stands in the state's buffer
-- before the opening and before each restart
abbrev pub calls_member : ℕ → ℕ → List ℕ → MemberCode
calls_member date market old = record {
  State = Program;
  phase = λ p. phase_of (session_of p.state).phase;
  table = λ p. last_of (book_of p.state).table;
  new = opened market date old;
  Fields = Given;
  writes = writes;
  login = login;
  login_bytes = login_bytes;
  gets = gets;
  sends = sends;
  no_room = λ room b p. refused_for_room room b (desk_of p);
  ended = ended;
  restart = restart date old;
}
