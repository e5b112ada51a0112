-- Reading and writing by direction: the first whole message of any bytes, and the record of any message, which is bytes in a lent buffer.
-- Definitions alone. Assumes nothing.
use Rattle.std.specs.Prelude.{ℕ, Bool, false, cond, not, ◌||◌, List, ◌∷◌, ◌++◌, eqb, ltb, length, get_or, take, drop}
use Rattle.refusals.specs.Names.{unknown_type, no_room}
use Rattle.numbers.specs.Numbers.{number_at, bytes_of, patched}
use Rattle.wire.specs.Header.{type_of}
use Rattle.wire.specs.Frame.{frame_refusal, framed}
use Rattle.orders.specs.Shapes as order_types
use Rattle.orders.specs.declared.Market.TheVariants.{Equities, Options}
use Rattle.orders.specs.Markets.{of_market, record_type, heard_in, on_wire}
use Rattle.orders.specs.Orders as orders
use Rattle.order_records.specs.Records.{record_bytes, record_at}
use Rattle.session_messages.specs.Sessions as sessions
use Rattle.session_messages.specs.declared.Record as session_records
use Rattle.session_messages.specs.Sizes.{session_record_size}
use Rattle.block.specs.Sizes.{record_size}

-- ---- the types

-- a session message's
abbrev pub is_session : ℕ → Bool
is_session message = sessions.of_member message || sessions.of_venue message

-- direction 0 is from the member of an equities market, 1 from the venue, 2 from the member of an options market; any other has no types. The types are
-- those that records have: 02, request 4
unfoldable pub carries : ℕ → ℕ → Bool
carries direction message =
    cond (eqb direction 0) (of_market Equities message || sessions.of_member message)
    (cond (eqb direction 1) (order_types.of_venue message || sessions.of_venue message)
    (cond (eqb direction 2) (of_market Options message || sessions.of_member message)
    false))

-- the type that a record has in a direction, by its message's type on the wire
abbrev pub type_in : ℕ → ℕ → ℕ
type_in direction type = cond (eqb direction 2) (record_type Options type) type

-- the first whole message of s as it is read in a direction: under its record's type
abbrev pub heard : ℕ → List ℕ → List ℕ
heard direction s = cond (eqb direction 2) (heard_in Options (framed s)) (framed s)

-- the size of a type's record: that of a session message's, or of an order's
unfoldable pub record_size_of : ℕ → ℕ
record_size_of message = cond (is_session message) session_record_size record_size

-- ---- a session message's record as 439 bytes: type, unit, number, the 433 bytes of the body

-- its bytes
unfoldable pub session_record_bytes : session_records.Record → List ℕ
session_record_bytes r = (r.message ∷ r.unit ∷ bytes_of 4 r.number) ++ r.body

-- the record that the first 439 bytes are
unfoldable pub session_at : List ℕ → session_records.Record
session_at s = record { message = get_or s 0 0; unit = get_or s 1 0; number = number_at 4 2 s; body = take 433 (drop 6 s) }

-- ---- reading

-- a message's own refusals
unfoldable pub own_refusal : List ℕ → ℕ
own_refusal m = cond (is_session (type_of m)) (sessions.read_refusal m) (orders.read_refusal m)

-- its record's bytes, as many as its type's record has
unfoldable pub record_of : List ℕ → List ℕ
record_of m = cond (is_session (type_of m)) (session_record_bytes (sessions.record_of m)) (record_bytes (orders.record_of m))

-- 1, 2, 3; 4 by the direction; then the message's own, under its record's type
unfoldable pub read_refusal : ℕ → List ℕ → ℕ
read_refusal direction s =
    cond (eqb (frame_refusal s) 0)
    (cond (carries direction (type_of (heard direction s))) (own_refusal (heard direction s)) unknown_type)
    (frame_refusal s)

-- then 13 if the record's buffer is under the size of this message's record
unfoldable pub read_call : ℕ → List ℕ → ℕ → ℕ
read_call direction s room =
    cond (eqb (read_refusal direction s) 0)
    (cond (ltb room (record_size_of (type_of (heard direction s)))) no_room 0)
    (read_refusal direction s)

-- the record's buffer after it
unfoldable pub read_record : ℕ → List ℕ → List ℕ → List ℕ
read_record direction s buffer = cond (eqb (read_call direction s (length buffer)) 0) (patched buffer 0 (record_of (heard direction s))) buffer

-- ---- writing a record s

-- a record's own refusals
unfoldable pub own_write : List ℕ → ℕ → ℕ
own_write s room = cond (is_session (get_or s 0 0)) (sessions.record_refusal (session_at s) room) (orders.write_refusal (record_at s) room)

-- the bytes of its message, as it stands on the wire
unfoldable pub message_of : List ℕ → List ℕ
message_of s = cond (is_session (get_or s 0 0)) (sessions.session_bytes (session_at s)) (on_wire (orders.order_bytes (record_at s)))

-- 13 if there is no type byte; 4 by the direction; 13 if the record is under its type's size; then the record's own
unfoldable pub write_call : ℕ → List ℕ → ℕ → ℕ
write_call direction s room =
    cond (eqb (length s) 0) no_room
    (cond (not (carries direction (get_or s 0 0))) unknown_type
    (cond (ltb (length s) (record_size_of (get_or s 0 0))) no_room
    (own_write s room)))

-- the output buffer after it
unfoldable pub write_out : ℕ → List ℕ → List ℕ → List ℕ
write_out direction s out = cond (eqb (write_call direction s (length out)) 0) (patched out 0 (message_of s)) out

-- what of a buffer is the record: as many bytes of its front as its type's record has
unfoldable pub held_in : List ℕ → List ℕ
held_in s = take (record_size_of (get_or s 0 0)) s
