-- The rejections of request 2, computed: 000's three examples, and what is refused beside them. Assumes nothing.
use Rattle.std.specs.Prelude.{◌≡◌, refl, List, [], ◌∷◌, ◌++◌, map, ℕ, ◌+◌, ◌-◌, length}
use Rattle.refusals.specs.Told.{number_in, place_in}
use Rattle.numbers.specs.Numbers.{patched}
use Rattle.wire.specs.Header.{length_of, total_of, number_of}
use Rattle.wire.specs.Frame.{not_ba, starts_bad, length_bad, cut_short, frame_refusal, framed}
use Rattle.dictionary.specs.Dictionary as dictionary
use Rattle.block.specs.Slots.{zeros}
use Rattle.block.specs.Places.{selected_at, entry_at, slots_from, has_required}
use Rattle.orders.specs.Shapes.{count_at, most_of, unit_good, fixed_good}
use Rattle.orders.specs.FixedFields.{fixed_fields, fixed_wrong}
use Rattle.orders.specs.Middle as middles
use Rattle.orders.specs.Late as lates
use Rattle.orders.specs.Markets as markets
use Rattle.orders.specs.Orders as orders
use Rattle.order_records.specs.Records.{record_bytes, record_at}
use Rattle.session_groups.specs.Groups as groups
use Rattle.session_messages.specs.ValueFields.{value_fields, values_wrong}
use Rattle.session_messages.specs.Sessions as sessions
use Rattle.messages.specs.Messages.{carries, session_record_bytes, own_refusal, record_of, read_refusal, record_size_of, own_write, message_of, write_call, write_out}
use Rattle.proved_examples.specs.Examples.{Example, example, abc123, test}

-- from the venue: the refusal's number and its place
abbrev reading : List ℕ → List ℕ
reading m = number_in (read_refusal 1 m) ∷ place_in (read_refusal 1 m) ∷ []

-- the message that is written of the record that is read of it
abbrev again : List ℕ → List ℕ
again m = write_out 1 (record_of m) (zeros (length m))

-- the header of an unsequenced message of a type and a length, under 256; of a unit and a number, both under 256
abbrev headed : ℕ → ℕ → ℕ → ℕ → List ℕ
headed n type unit number = 0xBA ∷ 0xBA ∷ n ∷ 0 ∷ type ∷ unit ∷ number ∷ 0 ∷ 0 ∷ 0 ∷ []

-- the fixed part of 000's examples: the time, ABC123, a reason, and a text with zeros after it up to 60 bytes; the reserved byte
abbrev fixed : ℕ → List ℕ → List ℕ
fixed reason text = 0xE0 ∷ 0xFA ∷ 0x20 ∷ 0xF7 ∷ 0x36 ∷ 0x71 ∷ 0xF8 ∷ 0x11 ∷ abc123 ++ (reason ∷ text ++ zeros (61 - length text))

-- Duplicate ClOrdID; Pending; TOO LATE
abbrev duplicate : List ℕ
duplicate = 0x44 ∷ 0x75 ∷ 0x70 ∷ 0x6C ∷ 0x69 ∷ 0x63 ∷ 0x61 ∷ 0x74 ∷ 0x65 ∷ 0x20 ∷ 0x43 ∷ 0x6C ∷ 0x4F ∷ 0x72 ∷ 0x64 ∷ 0x49 ∷ 0x44 ∷ []

abbrev pending : List ℕ
pending = 0x50 ∷ 0x65 ∷ 0x6E ∷ 0x64 ∷ 0x69 ∷ 0x6E ∷ 0x67 ∷ []

abbrev late : List ℕ
late = 0x54 ∷ 0x4F ∷ 0x4F ∷ 0x20 ∷ 0x4C ∷ 0x41 ∷ 0x54 ∷ 0x45 ∷ []

-- 000's table 37, an Order Rejected with Symbol MSFT, ClearingFirm TEST and a blank ClearingAccount; of a unit and a number
abbrev rejected : ℕ → ℕ → List ℕ
rejected unit number =
    headed 118 0x26 unit number ++ fixed 0x44 duplicate
    ++ (0x03 ∷ 0x00 ∷ 0x01 ∷ 0x06 ∷ [])
    ++ (0x4D ∷ 0x53 ∷ 0x46 ∷ 0x54 ∷ zeros 4)
    ++ test ++ zeros 4

-- its tables 43 and 47, a User Modify Rejected and a Cancel Rejected: 101 bytes; and each with n bytes more, of which the first is the count
abbrev modify_rejected : List ℕ → List ℕ
modify_rejected more = headed (98 + length more) 0x29 0 0 ++ fixed 0x50 pending ++ more

abbrev cancel_rejected : List ℕ → List ℕ
cancel_rejected more = headed (98 + length more) 0x2B 0 0 ++ fixed 0x4A late ++ more

-- an Order Rejected with so many zero bitfields
abbrev bare : ℕ → List ℕ
bare n = headed (99 + n) 0x26 0 0 ++ fixed 0x44 duplicate ++ (n ∷ zeros n)

-- an Order Acknowledgment of a unit
abbrev acknowledged : ℕ → List ℕ
acknowledged unit = headed 46 0x25 unit 1 ++ (zeros 8 ++ (abc123 ++ zeros 10))

abbrev pub rejections : List Example
rejections =
    -- 000's three are read, with totals 120, 101 and 101, and what is written again is the same
    example 37 (reading (rejected 0 0) ++ (total_of (rejected 0 0) ∷ [])) (0 ∷ 0 ∷ 120 ∷ [])
    ∷ example 37 (again (rejected 0 0)) (rejected 0 0)
    ∷ example 43 (reading (modify_rejected (0 ∷ [])) ++ (total_of (modify_rejected (0 ∷ [])) ∷ [])) (0 ∷ 0 ∷ 101 ∷ [])
    ∷ example 43 (again (modify_rejected (0 ∷ []))) (modify_rejected (0 ∷ []))
    ∷ example 47 (reading (cancel_rejected (0 ∷ [])) ++ (total_of (cancel_rejected (0 ∷ [])) ∷ [])) (0 ∷ 0 ∷ 101 ∷ [])
    ∷ example 47 (again (cancel_rejected (0 ∷ []))) (cancel_rejected (0 ∷ []))
    -- of unit 1, of number 1: 5; an acknowledgment of unit 0: 5, of unit 1: taken
    ∷ example 5 (reading (rejected 1 0) ++ reading (rejected 0 1)) (5 ∷ 0 ∷ 5 ∷ 0 ∷ [])
    ∷ example 5 (reading (acknowledged 0) ++ reading (acknowledged 1)) (5 ∷ 0 ∷ 0 ∷ 0 ∷ [])
    -- Mass Cancel Acknowledgment and Purge Rejected: 4; a rejection from the member: 4
    ∷ example 4 (reading (headed 8 0x36 0 0) ++ reading (headed 8 0x48 0 0)) (4 ∷ 0 ∷ 4 ∷ 0 ∷ [])
    ∷ example 4 (read_refusal 0 (rejected 0 0) ∷ []) (4 ∷ [])
    -- a bit of User Modify Rejected, and one of Cancel Rejected's third byte: 8; its EchoText and StopPx in the eighth: taken
    ∷ example 8 (reading (modify_rejected (1 ∷ 1 ∷ 0 ∷ [])) ++ reading (cancel_rejected (3 ∷ 0 ∷ 0 ∷ 1 ∷ []))) (8 ∷ 101 ∷ 8 ∷ 103 ∷ [])
    ∷ example 8 (reading (cancel_rejected (8 ∷ zeros 7 ++ (6 ∷ zeros 72)))) (0 ∷ 0 ∷ [])
    -- 19 bitfields: taken; 20: 7 at the count byte
    ∷ example 7 (reading (bare 19) ++ reading (bare 20)) (0 ∷ 0 ∷ 7 ∷ 100 ∷ [])
    -- a text with a character that is none: 10 at its place; a blank ClOrdID: 10 at 18
    ∷ example 10 (reading (patched (rejected 0 0) 45 (0x07 ∷ [])) ++ reading (patched (rejected 0 0) 18 (zeros 20))) (10 ∷ 39 ∷ 10 ∷ 18 ∷ [])
    ∷ []

-- each is answered as it is told
pub rejections_hold : map (λ (e : Example). e.answered) rejections ≡ map (λ (e : Example). e.stated) rejections
unfolding patched markets.typed write_out message_of orders.order_bytes length_of total_of number_of not_ba starts_bad length_bad cut_short frame_refusal framed carries read_refusal own_refusal record_of record_size_of own_write write_call session_record_bytes record_bytes record_at orders.read_refusal orders.head_refusal orders.block_refusal orders.body_refusal orders.rest_of middles.middle_size middles.middle_good lates.lacks lates.conflicts lates.late_refusal orders.bits_of orders.optional_of orders.fixed_of orders.layout_of orders.record_of orders.write_slots orders.write_rest orders.zero_unused orders.size_of orders.write_refusal count_at most_of unit_good fixed_good fixed_fields fixed_wrong selected_at entry_at dictionary.entry_of slots_from has_required sessions.read_refusal sessions.fixed_size sessions.values_good value_fields values_wrong sessions.flag_good sessions.lists_end sessions.body_end groups.units_from groups.pairs_good groups.bits_good groups.group_key groups.group_size groups.next_size groups.groups_from
rejections_hold = refl
