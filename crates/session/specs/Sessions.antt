-- The member's session: its phases, and what each call answers and leaves behind. Definitions alone. Assumes nothing.
use Rattle.std.specs.Prelude.{ℕ, ◌+◌, Bool, true, false, cond, ◌||◌, List, eqb, ltb, length, get_or}
use Rattle.refusals.specs.Names.{unknown_type, no_room, out_of_phase, numbers_used_up}
use Rattle.numbers.specs.Numbers.{number_at, patched}
use Rattle.wire.specs.Header.{type_of}
use Rattle.wire.specs.Frame.{frame_refusal, framed}
use Rattle.block.specs.Slots.{zeros}
use Rattle.orders.specs.Shapes as order_types
use Rattle.orders.specs.declared.Record as order_records
use Rattle.orders.specs.Orders as orders
use Rattle.orders.specs.Markets.{of_market, on_wire}
use Rattle.orders.specs.declared.Market.{Market}
use Rattle.order_records.specs.Records.{record_at}
use Rattle.session_messages.specs.declared.Record as session_records
use Rattle.session_messages.specs.Sessions as logins
use Rattle.messages.specs.Messages.{read_refusal}
use Rattle.book.specs.declared.Book.{Book}
use Rattle.book.specs.Books as books
use Rattle.book.specs.Books.{append_refusal, appended_by, close_of, close_buffer}
use Rattle.session.specs.declared.Phase.{Phase}
use Rattle.session.specs.declared.Phase.TheVariants.{Closed, Asked, Replaying, Live}
use Rattle.session.specs.declared.Session.{Session}
use Rattle.session.specs.declared.Told.{Told}
use Rattle.session.specs.declared.Told.TheVariants.{Nothing, Booked, Handed}
use Rattle.session.specs.Answer.{Received}
use Rattle.session.specs.Answer.{Answer}
use Rattle.block.specs.Sizes.{record_size}

-- one of two, by a test
abbrev pub pick_session : Bool → Session → Session → Session
pick_session true a b = a
pick_session false a b = b

-- what a call answers
abbrev pub answer : ℕ → Session → Answer
answer n s = record { refusal = n; session = s }

-- a call whose refusal is n: the state after it, or the state as it was
abbrev pub answered : ℕ → Session → Session → Answer
answered n after before = answer n (pick_session (eqb n 0) after before)

-- 01, The day book: after opening and after a restart the session is closed; no order has gone out yet. 02, request 4: each of the two names its market
abbrev pub closed_with : Market → Book → Session
closed_with market b = record { phase = Closed; outgoing = record { 0 = 0 }; market = market; book = b }

-- the same session in another phase, and with another book
abbrev pub in_phase : Phase → Session → Session
in_phase p s = record { phase = p; outgoing = s.outgoing; market = s.market; book = s.book }

abbrev pub with_book : Session → Book → Session
with_book s b = record { phase = s.phase; outgoing = s.outgoing; market = s.market; book = b }

-- ---- the phases

-- no session; a login that is not yet answered; a replay that is complete
abbrev pub is_closed : Phase → Bool
is_closed Closed = true
is_closed Asked = false
is_closed Replaying = false
is_closed Live = false

abbrev pub is_asked : Phase → Bool
is_asked Closed = false
is_asked Asked = true
is_asked Replaying = false
is_asked Live = false

abbrev pub is_live : Phase → Bool
is_live Closed = false
is_live Asked = false
is_live Replaying = false
is_live Live = true

-- replaying or live
abbrev pub is_open : Phase → Bool
is_open Closed = false
is_open Asked = false
is_open Replaying = true
is_open Live = true

-- 01, Session and replay: what passes in a phase. Application messages, sequenced or not, and heartbeats (09) while replaying or live; a Login Response (24) while
-- asked; Replay Complete (13) while replaying; a Logout (08) in every phase but closed.
unfoldable pub passes : Phase → ℕ → Bool
passes Closed message = false
passes Asked message = eqb message 0x24 || eqb message 0x08
passes Replaying message = order_types.of_venue message || (eqb message 0x09 || (eqb message 0x13 || eqb message 0x08))
passes Live message = order_types.of_venue message || (eqb message 0x09 || eqb message 0x08)

-- ---- the session's end

-- 01, The day book: closed, with a mark in the book if there is room for it
unfoldable pub ended_by : Session → ℕ → Session
ended_by s room = record { phase = Closed; outgoing = s.outgoing; market = s.market; book = close_of s.book room }

-- a break: it ends the session; while closed it changes nothing
unfoldable pub broken_by : Session → ℕ → Session
broken_by s room = pick_session (is_closed s.phase) s (ended_by s room)

-- the book's buffer after it
unfoldable pub broken_buffer : Session → List ℕ → List ℕ
broken_buffer s xs = cond (is_closed s.phase) xs (close_buffer s.book xs)

-- ---- a Login Response: status A leads to replaying and brings the number from which the orders go on; any other ends the session

unfoldable pub responded_by : Session → ℕ → ℕ → ℕ → Session
responded_by s status received room =
    pick_session (eqb status 65) (record { phase = Replaying; outgoing = record { 0 = received }; market = s.market; book = s.book }) (ended_by s room)

-- the book's buffer after it
unfoldable pub responded_buffer : Session → ℕ → List ℕ → List ℕ
responded_buffer s status xs = cond (eqb status 65) xs (close_buffer s.book xs)

-- 000, Login Response: where status and last received number stand
abbrev pub status_in : List ℕ → ℕ
status_in m = get_or m 10 0

abbrev pub received_in : List ℕ → ℕ
received_in m = number_at 4 72 m

-- reading: 1, 2, 3; 4 for a type other than the Login Response's; then the message's own
unfoldable pub response_reading : List ℕ → ℕ
response_reading bytes =
    cond (eqb (frame_refusal bytes) 0)
    (cond (eqb (type_of (framed bytes)) 0x24) (logins.read_refusal (framed bytes)) unknown_type)
    (frame_refusal bytes)

-- 01, Session and replay: 16 if closed; the reading refusals; 16 for a type out of phase, which a Login Response is unless asked
unfoldable pub response_refusal : Session → List ℕ → ℕ
response_refusal s bytes =
    cond (is_closed s.phase) out_of_phase
    (cond (eqb (response_reading bytes) 0)
    (cond (is_asked s.phase) 0 out_of_phase)
    (response_reading bytes))

-- the state after it, and the book's buffer
unfoldable pub response_of : Session → ℕ → List ℕ → Answer
response_of s room bytes = answered (response_refusal s bytes) (responded_by s (status_in (framed bytes)) (received_in (framed bytes)) room) s

unfoldable pub response_buffer : Session → List ℕ → List ℕ → List ℕ
response_buffer s xs bytes = cond (eqb (response_refusal s bytes) 0) (responded_buffer s (status_in (framed bytes)) xs) xs

-- ---- a sequenced application message

-- 01, Session and replay: 16 if closed; the reading refusals, which are the book's: 4 for a type other than a sequenced message's; 16 for a type
-- out of phase, which such a message is unless replaying or live; then 14, 15, 13
unfoldable pub message_refusal : Session → ℕ → List ℕ → ℕ
message_refusal s room bytes =
    cond (is_closed s.phase) out_of_phase
    (cond (eqb (books.message_refusal bytes) 0)
    (cond (is_open s.phase) (append_refusal s.book room bytes) out_of_phase)
    (books.message_refusal bytes))

-- the state after it, and the book's buffer
unfoldable pub message_of : Session → ℕ → List ℕ → Answer
message_of s room bytes = answered (message_refusal s room bytes) (with_book s (appended_by s.book (framed bytes))) s

unfoldable pub message_buffer : Session → List ℕ → List ℕ → List ℕ
message_buffer s xs bytes = cond (eqb (message_refusal s (length xs) bytes) 0) (patched xs s.book.length (framed bytes)) xs

-- ---- any bytes from the venue

-- 01, Session and replay: 16 if closed; the reading refusals; 16 for a type out of phase; then 14, 15, 13 of a sequenced message
unfoldable pub receive_refusal : Session → ℕ → List ℕ → ℕ
receive_refusal s room bytes =
    cond (is_closed s.phase) out_of_phase
    (cond (eqb (read_refusal 1 bytes) 0)
    (cond (passes s.phase (type_of (framed bytes)))
    (cond (order_types.sequenced (type_of (framed bytes))) (append_refusal s.book room bytes) 0)
    out_of_phase)
    (read_refusal 1 bytes))

-- the state after a message m that passes: a Login Response, Replay Complete, a Logout, a sequenced message. A heartbeat and an unsequenced message
-- change nothing: 02, request 2, such a message is neither booked nor counted
unfoldable pub received_by : Session → ℕ → List ℕ → Session
received_by s room m =
    pick_session (eqb (type_of m) 0x24) (responded_by s (status_in m) (received_in m) room)
    (pick_session (eqb (type_of m) 0x13) (in_phase Live s)
    (pick_session (eqb (type_of m) 0x08) (ended_by s room)
    (pick_session (order_types.sequenced (type_of m)) (with_book s (appended_by s.book m))
    s)))

-- what is answered: the state after it, or the refusal and the state as it was
unfoldable pub receive_of : Session → ℕ → List ℕ → Answer
receive_of s room bytes = answered (receive_refusal s room bytes) (received_by s room (framed bytes)) s

-- the book's buffer after it
unfoldable pub received_buffer : Session → List ℕ → List ℕ → List ℕ
received_buffer s xs m =
    cond (eqb (type_of m) 0x24) (responded_buffer s (status_in m) xs)
    (cond (eqb (type_of m) 0x13) xs
    (cond (eqb (type_of m) 0x08) (close_buffer s.book xs)
    (cond (order_types.sequenced (type_of m)) (patched xs s.book.length m)
    xs)))

unfoldable pub receive_buffer : Session → List ℕ → List ℕ → List ℕ
receive_buffer s xs bytes = cond (eqb (receive_refusal s (length xs) bytes) 0) (received_buffer s xs (framed bytes)) xs

-- ---- what became of it

-- one of two, by a test
abbrev pub pick_told : Bool → Told → Told → Told
pick_told true a b = a
pick_told false a b = b

-- 02, request 2: a sequenced message is booked, an unsequenced one is handed to the desk; of any other there is nothing for it
unfoldable pub told_of : ℕ → Told
told_of message = pick_told (order_types.sequenced message) Booked (pick_told (order_types.unsequenced message) Handed Nothing)

-- and of what is refused, with n, there is nothing
abbrev pub told_after : ℕ → ℕ → Told
told_after n message = pick_told (eqb n 0) (told_of message) Nothing

-- what is answered to any bytes from the venue
abbrev pub received_with : Answer → List ℕ → Received
received_with a m = record { refusal = a.refusal; told = told_after a.refusal (type_of m); session = a.session }

abbrev pub receive_answer : Session → ℕ → List ℕ → Received
receive_answer s room bytes = received_with (receive_of s room bytes) (framed bytes)

-- ---- what goes out

-- a login, of which r is the record: 16 unless closed, then the writer's
unfoldable pub login_refusal : Session → session_records.Record → ℕ → ℕ
login_refusal s r room = cond (is_closed s.phase) (logins.record_refusal r room) out_of_phase

-- written, it leads from closed to asked; and the buffer that it is written into
unfoldable pub login_of : Session → session_records.Record → ℕ → Answer
login_of s r room = answered (login_refusal s r room) (in_phase Asked s) s

unfoldable pub login_out : Session → session_records.Record → List ℕ → List ℕ
login_out s r out = cond (is_closed s.phase) (logins.record_buffer r out) out

-- a heartbeat: 16 unless replaying or live, then the writer's; it changes no state
abbrev pub heartbeat_record : session_records.Record
heartbeat_record = record { message = 0x03; unit = 0; number = 0; body = zeros 433 }

unfoldable pub heartbeat_refusal : Session → ℕ → ℕ
heartbeat_refusal s room = cond (is_open s.phase) (logins.record_refusal heartbeat_record room) out_of_phase

unfoldable pub heartbeat_of : Session → ℕ → Answer
heartbeat_of s room = answer (heartbeat_refusal s room) s

unfoldable pub heartbeat_out : Session → List ℕ → List ℕ
heartbeat_out s out = cond (is_open s.phase) (logins.record_buffer heartbeat_record out) out

-- an order, of which the first `record_size` bytes given are the record: it goes out under the next outgoing number
abbrev pub numbered : List ℕ → ℕ → order_records.Record
numbered given n =
    record {
      message = (record_at given).message;
      unit = (record_at given).unit;
      number = n;
      fixed = (record_at given).fixed;
      count = (record_at given).count;
      bits = (record_at given).bits;
      slots = (record_at given).slots;
    }

-- the number after the last that went out
abbrev pub next_outgoing : Session → ℕ
next_outgoing s = s.outgoing.0 + 1

-- 01, going out: 16 unless live; 20; 13 if the record is under `record_size` bytes; 4 if it is not an order of its market; then the writer's
unfoldable pub order_refusal : Session → List ℕ → ℕ → ℕ
order_refusal s given room =
    cond (is_live s.phase)
    (cond (eqb s.outgoing.0 4294967295) numbers_used_up
    (cond (ltb (length given) record_size) no_room
    (cond (of_market s.market (get_or given 0 0)) (orders.write_refusal (numbered given (next_outgoing s)) room)
    unknown_type)))
    out_of_phase

-- the number is used up only by an order that was written
unfoldable pub order_of : Session → List ℕ → ℕ → Answer
order_of s given room =
    answered (order_refusal s given room) (record { phase = s.phase; outgoing = record { 0 = next_outgoing s }; market = s.market; book = s.book }) s

-- the buffer that it is written into, with the type that its message has on the wire
unfoldable pub order_out : Session → List ℕ → List ℕ → List ℕ
order_out s given out = cond (eqb (order_refusal s given (length out)) 0) (patched out 0 (on_wire (orders.order_bytes (numbered given (next_outgoing s))))) out
