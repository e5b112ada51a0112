-- The member's session as a caller keeps it, 278 bytes: its book's state, as the book's calls have it, and after it the outgoing number, the phase and the
-- market. And the session's calls over them: each is the session's own on the session that the bytes are, and stores what it answers. Definitions alone.
-- Assumes nothing.
use Rattle.std.specs.Prelude.{ℕ, Bool, true, false, cond, List, [], ◌∷◌, ◌++◌, ltb, eqb, length, get_or}
use Rattle.refusals.specs.Names.{no_room}
use Rattle.numbers.specs.Numbers.{number_at, bytes_of, patched}
use Rattle.orders.specs.declared.Market.{Market}
use Rattle.orders.specs.declared.Market.TheVariants.{Equities, Options}
use Rattle.orders.specs.Markets.{market_of}
use Rattle.book.specs.Books.{opened_book, open_refusal, open_buffer}
use Rattle.book_restart.specs.Restarts.{restart_of}
use Rattle.book_calls.specs.BookBytes.{book_of, book_bytes}
use Rattle.session.specs.declared.Phase.{Phase}
use Rattle.session.specs.declared.Phase.TheVariants.{Closed, Asked, Replaying, Live}
use Rattle.session.specs.declared.Session.{Session}
use Rattle.session.specs.declared.Told.{Told}
use Rattle.session.specs.declared.Told.TheVariants.{Nothing, Booked, Handed}
use Rattle.session.specs.Sessions.{closed_with, receive_answer, receive_buffer, login_of, login_out, order_of, order_out, heartbeat_of, heartbeat_out, broken_by, broken_buffer}
use Rattle.session_calls.specs.LoginBytes.{login_size, given_record}

-- ---- the bytes

-- a state is so many bytes
abbrev pub session_size : ℕ
session_size = 278

-- after the book's: the outgoing number, 4 bytes, the phase and the market
abbrev pub outgoing_at : ℕ
outgoing_at = 272

abbrev pub phase_at : ℕ
phase_at = 276

abbrev pub market_at : ℕ
market_at = 277

-- a phase by its number, and the number of a phase; a byte that is no phase's is that of no session
abbrev pub pick_phase : Bool → Phase → Phase → Phase
pick_phase true a b = a
pick_phase false a b = b

abbrev pub phase_of : ℕ → Phase
phase_of n = pick_phase (eqb n 1) Asked (pick_phase (eqb n 2) Replaying (pick_phase (eqb n 3) Live Closed))

abbrev pub phase_number : Phase → ℕ
phase_number Closed = 0
phase_number Asked = 1
phase_number Replaying = 2
phase_number Live = 3

-- the number of a market, which `market_of` reads: 0 is equities, any other options
abbrev pub market_number : Market → ℕ
market_number Equities = 0
market_number Options = 1

-- the session that the bytes are
unfoldable pub session_of : List ℕ → Session
session_of state =
    record {
      phase = phase_of (get_or state phase_at 0);
      outgoing = record { 0 = number_at 4 outgoing_at state };
      market = market_of (get_or state market_at 0);
      book = book_of state;
    }

-- the bytes of a session, in the same order
unfoldable pub beside_bytes : Phase → ℕ → Market → List ℕ
beside_bytes phase outgoing market = bytes_of 4 outgoing ++ (phase_number phase ∷ market_number market ∷ [])

unfoldable pub session_bytes : Session → List ℕ
session_bytes s = book_bytes s.book ++ beside_bytes s.phase s.outgoing.0 s.market

-- a state's buffer after a call: the session in its front where nothing is refused, and otherwise every byte as it was
unfoldable pub session_after : ℕ → Session → List ℕ → List ℕ
session_after refusal s state = cond (eqb refusal 0) (patched state 0 (session_bytes s)) state

-- ---- every call: 13 for a state under 278 bytes, which comes first, since there is no session to judge by; then the session's own refusals

abbrev pub short : List ℕ → Bool
short state = ltb (length state) session_size

-- its refusal, and what a lent buffer holds after it
unfoldable pub called : List ℕ → ℕ → ℕ
called state own = cond (short state) no_room own

unfoldable pub lent_back : List ℕ → List ℕ → List ℕ → List ℕ
lent_back state own before = cond (short state) before own

-- ---- opening and restart, each for a market: 19, 13; 19, 22, 18, 17, 18

abbrev pub open_call : ℕ → ℕ → List ℕ → ℕ
open_call date room state = called state (open_refusal date room)

abbrev pub open_call_buffer : ℕ → List ℕ → List ℕ → List ℕ
open_call_buffer date xs state = lent_back state (open_buffer date xs) xs

abbrev pub open_call_state : ℕ → ℕ → ℕ → List ℕ → List ℕ
open_call_state date market room state = session_after (open_call date room state) (closed_with (market_of market) (opened_book date)) state

abbrev pub restart_call : ℕ → List ℕ → List ℕ → ℕ
restart_call date bytes state = called state (restart_of date bytes).refusal

abbrev pub restart_call_state : ℕ → ℕ → List ℕ → List ℕ → List ℕ
restart_call_state date market bytes state = session_after (restart_call date bytes state) (closed_with (market_of market) (restart_of date bytes).book) state

-- ---- a login: 13 for what is given under 87 bytes; 16, 10, 11, 13

unfoldable pub given_call : List ℕ → ℕ → ℕ
given_call given own = cond (ltb (length given) login_size) no_room own

unfoldable pub given_back : List ℕ → List ℕ → List ℕ → List ℕ
given_back given own before = cond (ltb (length given) login_size) before own

abbrev pub login_call : List ℕ → ℕ → List ℕ → ℕ
login_call given room state = called state (given_call given (login_of (session_of state) (given_record (book_of state).table given) room).refusal)

abbrev pub login_call_out : List ℕ → List ℕ → List ℕ → List ℕ
login_call_out given out state = lent_back state (given_back given (login_out (session_of state) (given_record (book_of state).table given) out) out) out

abbrev pub login_call_state : List ℕ → ℕ → List ℕ → List ℕ
login_call_state given room state =
    session_after (login_call given room state) (login_of (session_of state) (given_record (book_of state).table given) room).session state

-- ---- any bytes from the venue: 16 if closed, 1 to 11, 16, 14, 15, 13

-- what became of a message, by its number
abbrev pub told_number : Told → ℕ
told_number Nothing = 0
told_number Booked = 1
told_number Handed = 2

abbrev pub receive_call : List ℕ → ℕ → List ℕ → ℕ
receive_call bytes room state = called state (receive_answer (session_of state) room bytes).refusal

-- the number that is lent for what became of it
unfoldable pub told_after : ℕ → ℕ → ℕ → ℕ
told_after refusal own before = cond (eqb refusal 0) own before

abbrev pub receive_call_told : List ℕ → ℕ → List ℕ → ℕ → ℕ
receive_call_told bytes room state before = told_after (receive_call bytes room state) (told_number (receive_answer (session_of state) room bytes).told) before

abbrev pub receive_call_buffer : List ℕ → List ℕ → List ℕ → List ℕ
receive_call_buffer bytes xs state = lent_back state (receive_buffer (session_of state) xs bytes) xs

abbrev pub receive_call_state : List ℕ → ℕ → List ℕ → List ℕ
receive_call_state bytes room state = session_after (receive_call bytes room state) (receive_answer (session_of state) room bytes).session state

-- ---- an order: 16, 20, 13, 4, and the writer's

abbrev pub order_call : List ℕ → ℕ → List ℕ → ℕ
order_call given room state = called state (order_of (session_of state) given room).refusal

abbrev pub order_call_out : List ℕ → List ℕ → List ℕ → List ℕ
order_call_out given out state = lent_back state (order_out (session_of state) given out) out

abbrev pub order_call_state : List ℕ → ℕ → List ℕ → List ℕ
order_call_state given room state = session_after (order_call given room state) (order_of (session_of state) given room).session state

-- ---- a heartbeat: 16, 13; it changes no state

abbrev pub heartbeat_call : ℕ → List ℕ → ℕ
heartbeat_call room state = called state (heartbeat_of (session_of state) room).refusal

abbrev pub heartbeat_call_out : List ℕ → List ℕ → List ℕ
heartbeat_call_out out state = lent_back state (heartbeat_out (session_of state) out) out

-- ---- a break, which nothing but a short state refuses

abbrev pub break_call : List ℕ → ℕ
break_call state = called state 0

abbrev pub break_call_buffer : List ℕ → List ℕ → List ℕ
break_call_buffer xs state = lent_back state (broken_buffer (session_of state) xs) xs

abbrev pub break_call_state : ℕ → List ℕ → List ℕ
break_call_state room state = session_after (break_call state) (broken_by (session_of state) room) state

-- ---- the phase, by its number; of a short state 0

unfoldable pub phase_call : List ℕ → ℕ
phase_call state = cond (short state) 0 (phase_number (session_of state).phase)
