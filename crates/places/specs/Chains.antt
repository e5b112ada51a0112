-- The refusals as numbers alone, as they were before they had places: document 01's orders, with what document 02's first request adds to them.
-- Definitions alone. Assumes nothing.
use Rattle.std.specs.Prelude.{ℕ, ◌+◌, cond, not, ◌&&◌, ◌||◌, List, eqb, leb, ltb, length, get_or, drop}
use Rattle.kinds.specs.Kinds.{all_nul}
use Rattle.wire.specs.Header.{type_of, unit_of, number_of}
use Rattle.wire.specs.Frame.{frame_refusal, framed}
use Rattle.block.specs.Slots.{takes, sum, any_bad, agree_sent, agree_held}
use Rattle.block.specs.Places.{slots_of, has_required}
use Rattle.orders.specs.Shapes.{of_member, sequenced, of_venue, count_at, most_of, unit_good, fixed_good}
use Rattle.orders.specs.Middle.{middle_size, middle_good}
use Rattle.orders.specs.Late.{lacks, conflicts}
use Rattle.orders.specs.Orders.{count_of, bits_of, rest_of, optional_of, fixed_of, layout_of, write_slots, write_rest, zero_unused, size_of}
use Rattle.orders.specs.declared.Record.{Record}
use Rattle.order_records.specs.Records.{record_at}
use Rattle.session_messages.specs.Sessions as sessions
use Rattle.messages.specs.Messages.{heard, is_session, carries, record_size_of, session_at}

-- ---- messages with bitfields

-- reading: 4; 5; 6 if the message ends before its count byte is whole; 7; 6 if the bitfields do not fit
unfoldable pub head_number : List ℕ → ℕ
head_number m =
    cond (not (of_member (type_of m) || of_venue (type_of m))) 4
    (cond (not (unit_good (type_of m) (unit_of m) (number_of m))) 5
    (cond (leb (length m) (count_at (type_of m))) 6
    (cond (ltb (most_of (type_of m)) (count_of m)) 7
    (cond (ltb (length m) (count_at (type_of m) + 1 + count_of m)) 6
    0))))

-- then 8; 9; 6 if the total differs; 10
unfoldable pub block_number : ℕ → ℕ → List ℕ → List ℕ → List ℕ → ℕ
block_number message count bits fixed rest =
    cond (any_bad (slots_of message count bits)) 8
    (cond (not (has_required message count bits)) 9
    (cond (not (eqb (middle_size message count bits rest + sum takes (slots_of message count bits)) (length rest))) 6
    (cond (not (fixed_good message fixed && (middle_good message count bits rest && agree_sent (slots_of message count bits) (drop (middle_size message count bits rest) rest)))) 10
    0)))

-- 02, request 1: then 9 again, by the values of selected fields; 23
unfoldable pub late_number : ℕ → ℕ → List ℕ → List ℕ → ℕ
late_number message count bits slots =
    cond (lacks message count bits slots) 9
    (cond (conflicts message count bits slots) 23
    0)

unfoldable pub order_number : List ℕ → ℕ
order_number m =
    cond (eqb (head_number m) 0)
    (cond (eqb (block_number (type_of m) (count_of m) (bits_of m) (fixed_of m) (rest_of m)) 0)
    (late_number (type_of m) (count_of m) (bits_of m) (layout_of (type_of m) (count_of m) (bits_of m) (optional_of m)))
    (block_number (type_of m) (count_of m) (bits_of m) (fixed_of m) (rest_of m)))
    (head_number m)

-- writing: 4, 5, 7, 8, 9, 10, 9 again, 23, 12, 13
unfoldable pub order_write_number : Record → ℕ → ℕ
order_write_number r room =
    cond (not (of_member r.message || of_venue r.message)) 4
    (cond (not (unit_good r.message r.unit r.number)) 5
    (cond (ltb (most_of r.message) r.count) 7
    (cond (any_bad (write_slots r)) 8
    (cond (not (has_required r.message r.count r.bits)) 9
    (cond (not (fixed_good r.message r.fixed && (middle_good r.message r.count r.bits (write_rest r) && agree_held (write_slots r) r.slots))) 10
    (cond (lacks r.message r.count r.bits r.slots) 9
    (cond (conflicts r.message r.count r.bits r.slots) 23
    (cond (not (zero_unused r)) 12
    (cond (ltb room (size_of r)) 13
    0)))))))))

-- ---- session messages

-- reading: 4; 5; 6 where the fixed part is cut off; 10; 11; 6 where bytes are left
unfoldable pub session_number : List ℕ → ℕ
session_number m =
    cond (not (sessions.of_member (type_of m) || sessions.of_venue (type_of m))) 4
    (cond (not (sessions.unit_good (unit_of m) (number_of m))) 5
    (cond (ltb (length m) (10 + sessions.fixed_size (type_of m))) 6
    (cond (not (sessions.values_good (type_of m) (drop 10 m))) 10
    (cond (eqb (sessions.body_end (type_of m) (drop 10 m)) 0) 11
    (cond (not (eqb (sessions.body_end (type_of m) (drop 10 m)) (length (drop 10 m) + 1))) 6
    0)))))

-- writing a body b: 4, 5; 11 for a body shorter than its fixed part; 10; 11; 11, or 12 in a header alone, for a byte after the body; 13
unfoldable pub session_write_number : ℕ → ℕ → ℕ → List ℕ → ℕ → ℕ
session_write_number message unit number b room =
    cond (not (sessions.of_member message || sessions.of_venue message)) 4
    (cond (not (sessions.unit_good unit number)) 5
    (cond (ltb (length b) (sessions.fixed_size message)) 11
    (cond (not (sessions.values_good message b)) 10
    (cond (eqb (sessions.body_end message b) 0) 11
    (cond (not (all_nul (drop (sessions.size_of message b) b))) (cond (eqb (sessions.fixed_size message) 0) 12 11)
    (cond (ltb room (10 + sessions.size_of message b)) 13
    0))))))

-- ---- the two directions

-- 1, 2, 3; 4 by the direction; then the message's own, under its record's type
unfoldable pub read_number : ℕ → List ℕ → ℕ
read_number direction s =
    cond (eqb (frame_refusal s) 0)
    (cond (carries direction (type_of (heard direction s))) (cond (is_session (type_of (heard direction s))) (session_number (heard direction s)) (order_number (heard direction s))) 4)
    (frame_refusal s)

-- then 13
unfoldable pub read_call_number : ℕ → List ℕ → ℕ → ℕ
read_call_number direction s room =
    cond (eqb (read_number direction s) 0)
    (cond (ltb room (record_size_of (type_of (heard direction s)))) 13 0)
    (read_number direction s)

-- 13 without a type byte; 4 by the direction; 13 for a record under its type's size; then the record's own
unfoldable pub write_call_number : ℕ → List ℕ → ℕ → ℕ
write_call_number direction s room =
    cond (eqb (length s) 0) 13
    (cond (not (carries direction (get_or s 0 0))) 4
    (cond (ltb (length s) (record_size_of (get_or s 0 0))) 13
    (cond (is_session (get_or s 0 0))
    (session_write_number (session_at s).message (session_at s).unit (session_at s).number (session_at s).body room)
    (order_write_number (record_at s) room))))

-- ---- the book: 1, 2, 3; 4 for a type that is no sequenced message of the venue's; then the message's own
unfoldable pub book_number : List ℕ → ℕ
book_number s =
    cond (eqb (frame_refusal s) 0)
    (cond (sequenced (type_of (framed s))) (order_number (framed s)) 4)
    (frame_refusal s)
