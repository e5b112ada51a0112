-- The stages of the session's calls, as its functions have them. Definitions alone. Assumes nothing.
use Rattle.std.specs.Prelude.{ℕ, cond, List, eqb, ltb, length, get_or}
use Rattle.refusals.specs.Names.{unknown_type, no_room, out_of_phase, numbers_used_up}
use Rattle.wire.specs.Header.{type_of}
use Rattle.wire.specs.Frame.{framed}
use Rattle.orders.specs.declared.Market.{Market}
use Rattle.orders.specs.Markets.{of_market}
use Rattle.book.specs.Answer.{Answer as BookAnswer}
use Rattle.book.specs.Books.{close_buffer}
use Rattle.session.specs.declared.Phase.{Phase}
use Rattle.session.specs.declared.Phase.TheVariants.{Live}
use Rattle.session.specs.declared.Session.{Session}
use Rattle.session.specs.Answer.{Answer}
use Rattle.session.specs.Sessions.{pick_session, answer, answered, in_phase, with_book, is_closed, is_live, ended_by, responded_by, responded_buffer, status_in, received_in, receive_refusal, received_by, received_buffer}
use Rattle.block.specs.Sizes.{record_size}

-- what appending answered, told of the session
abbrev pub booked_as : Session → BookAnswer → Answer
booked_as s a = answer a.refusal (with_book s a.book)

-- the state after a session message m that passes, and the book's buffer
unfoldable pub heard_by : Session → ℕ → List ℕ → Session
heard_by s room m =
    pick_session (eqb (type_of m) 0x24) (responded_by s (status_in m) (received_in m) room)
    (pick_session (eqb (type_of m) 0x13) (in_phase Live s)
    (pick_session (eqb (type_of m) 0x08) (ended_by s room)
    s))

unfoldable pub heard_buffer : Session → List ℕ → List ℕ → List ℕ
heard_buffer s xs m =
    cond (eqb (type_of m) 0x24) (responded_buffer s (status_in m) xs)
    (cond (eqb (type_of m) 0x13) xs
    (cond (eqb (type_of m) 0x08) (close_buffer s.book xs)
    xs))

-- of bytes from the venue whose reading refusal is n: 16 if closed; that refusal; then as any message from the venue
unfoldable pub after_refusal : Session → ℕ → ℕ → List ℕ → ℕ
after_refusal s n room bytes = cond (is_closed s.phase) out_of_phase (cond (eqb n 0) (receive_refusal s room bytes) n)

-- what is answered, and the book's buffer
unfoldable pub after_reading : Session → ℕ → ℕ → List ℕ → Answer
after_reading s n room bytes = answered (after_refusal s n room bytes) (received_by s room (framed bytes)) s

unfoldable pub after_buffer : Session → ℕ → List ℕ → List ℕ → List ℕ
after_buffer s n xs bytes = cond (eqb (after_refusal s n (length xs) bytes) 0) (received_buffer s xs (framed bytes)) xs

-- an order's refusals before the writer's, by what they go by of a session: 16, 20, 13 for the record, 4 for one that is not of its market
abbrev pub gate_by : Phase → ℕ → Market → List ℕ → ℕ
gate_by phase outgoing market given =
    cond (is_live phase)
    (cond (eqb outgoing 4294967295) numbers_used_up
    (cond (ltb (length given) record_size) no_room
    (cond (of_market market (get_or given 0 0)) 0
    unknown_type)))
    out_of_phase

unfoldable pub gate_refusal : Session → List ℕ → ℕ
gate_refusal s given = gate_by s.phase s.outgoing.0 s.market given
