-- The member in the day of demand 3: the session's own calls, with the bytes that its book holds. 02, request 4: the market of the opening and of each
-- restart is any. Definitions alone. Assumes nothing.
use Rattle.std.specs.Prelude.{ℕ, suc, ◌+◌, min, Bool, true, false, ◌&&◌, List, [], eqb, ltb, length, take}
use Rattle.wire.specs.Header.{type_of, unit_of, number_of}
use Rattle.wire.specs.Frame.{framed}
use Rattle.block.specs.Slots.{zeros}
use Rattle.table.specs.Table.{last_of}
use Rattle.orders.specs.Markets.{market_of}
use Rattle.orders.specs.Shapes.{sequenced}
use Rattle.book.specs.Answer.{Answer}
use Rattle.book.specs.Books.{limit, blank_book, open_of, open_buffer}
use Rattle.book_restart.specs.Restarts as restarts
use Rattle.day_model.specs.Model.{closed, asked, replaying, live}
use Rattle.day_model.specs.Model as day
use Rattle.day_model.specs.Halves.{MemberCode}
use Rattle.day_line.specs.Lines.{Fields, login_of_table}
use Rattle.day_line.specs.Lent.{lent, kept}
use Rattle.session.specs.declared.Phase.{Phase}
use Rattle.session.specs.declared.Phase.TheVariants.{Closed, Asked, Replaying, Live}
use Rattle.session.specs.declared.Session.{Session}
use Rattle.session.specs.Sessions.{closed_with, is_open, receive_answer, receive_buffer, broken_by, broken_buffer, login_of, login_out, order_of}

-- the session's state, and the bytes that the book holds
pub record Desk : Type 0 where
  pub session : Session
  pub bytes : List ℕ

-- the desk after a call that lent the book's buffer
abbrev pub desk_after : Session → ℕ → List ℕ → List ℕ → Desk
desk_after s room buffer bytes = record { session = s; bytes = kept s.book.length room buffer bytes }

-- opening for a market and the day, with room for the mark
abbrev pub opened : ℕ → ℕ → Desk
opened market date =
    record { session = closed_with (market_of market) (open_of date 16).book; bytes = take (open_of date 16).book.length (open_buffer date (zeros 16)) }

-- a message from the venue, with a buffer lent for the book
abbrev pub gets : ℕ → List ℕ → Desk → Desk
gets room b d = desk_after (receive_answer d.session room b).session room (receive_buffer d.session (lent room d.bytes) b) d.bytes

-- a break
abbrev pub ended : ℕ → Desk → Desk
ended room d = desk_after (broken_by d.session room) room (broken_buffer d.session (lent room d.bytes)) d.bytes

-- a login with the whole table, into a buffer in which anything may stand: whether it is written, the state after it, and what goes onto the line, which
-- is the message that the call leaves in the buffer's front
abbrev pub writes : Fields → List ℕ → Desk → Bool
writes f out d = eqb (login_of d.session (login_of_table d.session.book.table f) (length out)).refusal 0

abbrev pub login : Fields → List ℕ → Desk → Desk
login f out d = record { session = (login_of d.session (login_of_table d.session.book.table f) (length out)).session; bytes = d.bytes }

abbrev pub login_bytes : Fields → List ℕ → Desk → List ℕ
login_bytes f out d = framed (login_out d.session (login_of_table d.session.book.table f) out)

-- an order goes out; a heartbeat changes no state. What the two leave in their buffers the day does not follow: its venue may get any bytes at any time
-- (`a_hearing`), those among them
abbrev pub sends : ℕ → List ℕ → Desk → Desk
sends room given d = record { session = (order_of d.session given room).session; bytes = d.bytes }

-- one of two, by a test
abbrev pub pick_desk : Bool → Desk → Desk → Desk
pick_desk true a b = a
pick_desk false a b = b

-- after the restart's answer, for a market: accepted, or 22 and the opening; a book that is refused leaves nothing to run
unfoldable pub restarted_by : ℕ → ℕ → Answer → List ℕ → Desk
restarted_by market date a bytes =
    pick_desk (eqb a.refusal 0) (record { session = closed_with (market_of market) a.book; bytes = take a.book.length bytes })
    (pick_desk (eqb a.refusal 22) (opened market date)
    (record { session = closed_with (market_of market) blank_book; bytes = [] }))

-- a cut that keeps the first k bytes, and the restart for the day and a market, which may be another than the last
abbrev pub restart : ℕ → ℕ → ℕ → Desk → Desk
restart date market k d = restarted_by market date (restarts.restart_of date (take k d.bytes)) (take k d.bytes)

-- 01, Session and replay: a message is accepted exactly when its number is the entry plus one and the book has room. Refused for room: in a phase
-- that takes it, with that number, and the buffer or the limit too short for it
unfoldable pub refused_for_room : ℕ → List ℕ → Desk → Bool
refused_for_room room b d =
    is_open d.session.phase
    && (sequenced (type_of b)
    && (eqb (number_of b) (suc (last_of d.session.book.table (unit_of b)))
    && ltb (min room limit) (length d.bytes + length b)))

-- a phase as the day sees it
abbrev pub phase_of : Phase → day.Phase
phase_of Closed = closed
phase_of Asked = asked
phase_of Replaying = replaying
phase_of Live = live

-- the member's part in the day: the market given is that of the first opening, and each restart names its own
abbrev pub our_member : ℕ → ℕ → MemberCode
our_member date market = record {
  State = Desk;
  phase = λ d. phase_of d.session.phase;
  table = λ d. last_of d.session.book.table;
  new = opened market date;
  Fields = Fields;
  writes = writes;
  login = login;
  login_bytes = login_bytes;
  gets = gets;
  sends = sends;
  no_room = refused_for_room;
  ended = ended;
  restart = restart date;
}
