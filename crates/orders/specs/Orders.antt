-- Reading and writing a message with bitfields. Definitions alone. Assumes nothing.
use Rattle.std.specs.Prelude.{ℕ, ◌+◌, ◌-◌, Bool, cond, not, ◌&&◌, ◌||◌, List, ◌∷◌, ◌++◌, leb, ltb, eqb, length, get_or, take, drop}
use Rattle.refusals.specs.Names.{unknown_type, bad_unit, wrong_total, too_many_bitfields, unlisted_bit, not_selected, bad_value, not_zero, no_room}
use Rattle.refusals.specs.Told.{told}
use Rattle.kinds.specs.Kinds.{all_nul}
use Rattle.numbers.specs.Numbers.{patched}
use Rattle.wire.specs.Header.{header_bytes, type_of, unit_of, number_of, total_of}
use Rattle.block.specs.Slots.{zeros, Slot, takes, width, sum, any_bad, bad_byte, spread, gathered, agree_sent, agree_held, wrong_sent, wrong_held, zero_elsewhere}
use Rattle.block.specs.Places.{slots_of, has_required}
use Rattle.orders.specs.Shapes.{of_member, of_venue, count_at, most_of, unit_good, fixed_good}
use Rattle.orders.specs.FixedFields.{fixed_wrong}
use Rattle.orders.specs.Middle.{middle_size, middle_good}
use Rattle.orders.specs.Late.{late_refusal}
use Rattle.orders.specs.Markets.{on_wire}
use Rattle.orders.specs.declared.Record.{Record}
use Rattle.block.specs.Sizes.{fixed_end, fixed_size, most_bitfields, layout_size}

-- ---- reading a whole message m, whose type is its record's (Markets.antt)

-- the count of bitfields
abbrev pub count_of : List ℕ → ℕ
count_of m = get_or m (count_at (type_of m)) 0

-- the bitfields, with zeros after them
unfoldable pub bits_of : List ℕ → List ℕ
bits_of m = take (count_of m) (drop (count_at (type_of m) + 1) m) ++ zeros (most_bitfields - count_of m)

-- all that follows the bitfields
unfoldable pub rest_of : List ℕ → List ℕ
rest_of m = drop (count_at (type_of m) + 1 + count_of m) m

-- the bytes of its middle
abbrev pub middle_of : List ℕ → ℕ
middle_of m = middle_size (type_of m) (count_of m) (bits_of m) (rest_of m)

-- the optional bytes: all that follows the middle
unfoldable pub optional_of : List ℕ → List ℕ
optional_of m = drop (middle_of m) (rest_of m)

-- the fixed part and the middle, with zeros after them
unfoldable pub fixed_of : List ℕ → List ℕ
fixed_of m = take (count_at (type_of m) - 10) (drop 10 m) ++ (take (middle_of m) (rest_of m) ++ zeros (fixed_end - count_at (type_of m) - middle_of m))

-- 02, request 3, the places: 6 at the message's end, which is its total; 7 at the count byte; 8 at the first bad bitfield byte; 9 at the last bitfield byte,
-- or the count byte where there are none; 10 at the first byte of the first bad field in message order, the fixed part first, then the middle

-- the refusals in reading order: 4; 5; 6 if the message ends before its count byte is whole; 7; 6 if the bitfields do not fit
unfoldable pub head_refusal : List ℕ → ℕ
head_refusal m =
    cond (not (of_member (type_of m) || of_venue (type_of m))) unknown_type
    (cond (not (unit_good (type_of m) (unit_of m) (number_of m))) bad_unit
    (cond (leb (length m) (count_at (type_of m))) (told wrong_total (total_of m))
    (cond (ltb (most_of (type_of m)) (count_of m)) (told too_many_bitfields (count_at (type_of m)))
    (cond (ltb (length m) (count_at (type_of m) + 1 + count_of m)) (told wrong_total (total_of m))
    0))))

-- then 8; 9; 6 if the total, which is given, differs; 10. Bitfield byte j, counted from 1, stands j after the count byte; the middle follows the last
-- one, and optional byte j stands j after the middle
unfoldable pub block_refusal : ℕ → ℕ → ℕ → List ℕ → List ℕ → List ℕ → ℕ
block_refusal total message count bits fixed rest =
    cond (any_bad (slots_of message count bits)) (told unlisted_bit (count_at message + bad_byte 0 (slots_of message count bits)))
    (cond (not (has_required message count bits)) (told not_selected (count_at message + count))
    (cond (not (eqb (middle_size message count bits rest + sum takes (slots_of message count bits)) (length rest))) (told wrong_total total)
    (cond (not (fixed_good message fixed)) (told bad_value (fixed_wrong message fixed))
    (cond (not (middle_good message count bits rest)) (told bad_value (count_at message + count + 1))
    (cond (not (agree_sent (slots_of message count bits) (drop (middle_size message count bits rest) rest)))
    (told bad_value (count_at message + count + middle_size message count bits rest + wrong_sent 0 (slots_of message count bits) (drop (middle_size message count bits rest) rest)))
    0)))))

-- the optional fields in the full layout
unfoldable pub layout_of : ℕ → ℕ → List ℕ → List ℕ → List ℕ
layout_of message count bits optional = spread (slots_of message count bits) optional ++ zeros (layout_size - sum width (slots_of message count bits))

-- 02, request 1: and then what hangs on the fields' values
unfoldable pub body_refusal : ℕ → ℕ → ℕ → List ℕ → List ℕ → List ℕ → ℕ
body_refusal total message count bits fixed rest =
    cond (eqb (block_refusal total message count bits fixed rest) 0)
    (late_refusal message count bits (layout_of message count bits (drop (middle_size message count bits rest) rest)))
    (block_refusal total message count bits fixed rest)

-- 01, Numbers of refusal, in reading order: the head, then the block, then the late ones
unfoldable pub read_refusal : List ℕ → ℕ
read_refusal m = cond (eqb (head_refusal m) 0) (body_refusal (total_of m) (type_of m) (count_of m) (bits_of m) (fixed_of m) (rest_of m)) (head_refusal m)

-- the record of a message
unfoldable pub record_of : List ℕ → Record
record_of m =
    record {
      message = type_of m;
      unit = unit_of m;
      number = number_of m;
      fixed = fixed_of m;
      count = count_of m;
      bits = bits_of m;
      slots = layout_of (type_of m) (count_of m) (bits_of m) (optional_of m);
    }

-- the record with which a new one begins
abbrev pub blank : Record
blank = record { message = 0; unit = 0; number = 0; fixed = zeros fixed_size; count = 0; bits = zeros most_bitfields; slots = zeros layout_size }

-- ---- writing a record

-- its slots
unfoldable pub write_slots : Record → List Slot
write_slots r = slots_of r.message r.count r.bits

-- what its fixed part holds after the fixed part of its message: the middle, and zeros
unfoldable pub write_rest : Record → List ℕ
write_rest r = drop (count_at r.message - 10) r.fixed

-- the bytes of its middle
abbrev pub write_middle : Record → ℕ
write_middle r = middle_size r.message r.count r.bits (write_rest r)

-- an unselected field or unused place of a record holds zero
unfoldable pub zero_unused : Record → Bool
zero_unused r =
    all_nul (drop (write_middle r) (write_rest r))
    && (all_nul (drop r.count r.bits)
    && zero_elsewhere (write_slots r) r.slots)

-- the bytes of the message in all
unfoldable pub size_of : Record → ℕ
size_of r = count_at r.message + 1 + r.count + (write_middle r + sum takes (write_slots r))

-- its message under the record's type: header, fixed part, count, bitfields, the middle, the selected fields
unfoldable pub order_bytes : Record → List ℕ
order_bytes r =
    header_bytes (size_of r - 2) r.message r.unit r.number
    ++ (take (count_at r.message - 10) r.fixed
    ++ (r.count ∷ (take r.count r.bits
    ++ (take (write_middle r) (write_rest r)
    ++ gathered (write_slots r) r.slots))))

-- the refusals in writing order: 4, 5, 7, 8, 9, 10, the late 9, 23, 12, 13; the places are those in the message that would be written
unfoldable pub write_refusal : Record → ℕ → ℕ
write_refusal r room =
    cond (not (of_member r.message || of_venue r.message)) unknown_type
    (cond (not (unit_good r.message r.unit r.number)) bad_unit
    (cond (ltb (most_of r.message) r.count) (told too_many_bitfields (count_at r.message))
    (cond (any_bad (write_slots r)) (told unlisted_bit (count_at r.message + bad_byte 0 (write_slots r)))
    (cond (not (has_required r.message r.count r.bits)) (told not_selected (count_at r.message + r.count))
    (cond (not (fixed_good r.message r.fixed)) (told bad_value (fixed_wrong r.message r.fixed))
    (cond (not (middle_good r.message r.count r.bits (write_rest r))) (told bad_value (count_at r.message + r.count + 1))
    (cond (not (agree_held (write_slots r) r.slots)) (told bad_value (count_at r.message + r.count + write_middle r + wrong_held 0 (write_slots r) r.slots))
    (cond (not (eqb (late_refusal r.message r.count r.bits r.slots) 0)) (late_refusal r.message r.count r.bits r.slots)
    (cond (not (zero_unused r)) not_zero
    (cond (ltb room (size_of r)) no_room
    0))))))))))

-- what the output buffer holds after it: the message as it stands on the wire
unfoldable pub write_buffer : Record → List ℕ → List ℕ
write_buffer r out = cond (eqb (write_refusal r (length out)) 0) (patched out 0 (on_wire (order_bytes r))) out
