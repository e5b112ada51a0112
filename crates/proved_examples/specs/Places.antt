-- The places of 02's third request on the documents' own messages, as one table: a refusal's number and its place. Assumes nothing.
use Rattle.std.specs.Prelude.{◌≡◌, refl, List, [], ◌∷◌, ◌++◌, map, ℕ, ◌+◌, take}
use Rattle.refusals.specs.Told.{number_in, place_in}
use Rattle.numbers.specs.Numbers.{patched}
use Rattle.wire.specs.Header.{length_of, total_of, number_of}
use Rattle.wire.specs.Frame.{not_ba, starts_bad, length_bad, cut_short, frame_refusal, framed}
use Rattle.dictionary.specs.Dictionary as dictionary
use Rattle.block.specs.Slots.{zeros}
use Rattle.block.specs.Places.{selected_at, entry_at, slots_from, has_required}
use Rattle.orders.specs.Shapes.{count_at, most_of, unit_good, fixed_good}
use Rattle.orders.specs.FixedFields.{fixed_fields, fixed_wrong}
use Rattle.orders.specs.Middle as middles
use Rattle.orders.specs.Late as lates
use Rattle.orders.specs.Orders as orders
use Rattle.order_records.specs.Records.{record_bytes, record_at}
use Rattle.session_groups.specs.Groups as groups
use Rattle.session_messages.specs.ValueFields.{value_fields, values_wrong}
use Rattle.session_messages.specs.Sessions as sessions
use Rattle.messages.specs.Messages.{carries, session_record_bytes, own_refusal, record_of, read_refusal, record_size_of, own_write, write_call}
use Rattle.proved_examples.specs.Examples.{Example, example, new_order, cancel_order, test, login}
use Rattle.block.specs.Sizes.{bits_place, slots_place}

-- a refusal's number and place
abbrev named : ℕ → List ℕ
named refusal = number_in refusal ∷ place_in refusal ∷ []

-- of a member's message
abbrev reading : List ℕ → List ℕ
reading m = named (read_refusal 0 m)

-- of a record that is written with room for 100 bytes
abbrev writing : List ℕ → List ℕ
writing r = named (write_call 0 r 100)

-- 000's New Order with a byte changed, and with two
abbrev changed : ℕ → ℕ → List ℕ
changed at byte = patched (new_order 74) at (byte ∷ [])

abbrev changed_twice : ℕ → ℕ → ℕ → ℕ → List ℕ
changed_twice at byte at' byte' = patched (changed at byte) at' (byte' ∷ [])

-- its record with a byte changed
abbrev held : ℕ → ℕ → List ℕ
held at byte = patched (record_of (new_order 74)) at (byte ∷ [])

-- its first 36 bytes, with that length and no bitfields
abbrev bare : List ℕ
bare = patched (patched (take 36 (new_order 74)) 2 (34 ∷ [])) 35 (0 ∷ [])

-- 002's login with Username's first byte changed, and with one byte more
abbrev misnamed : List ℕ
misnamed = patched login 14 (0x2D ∷ [])

abbrev longer : List ℕ
longer = patched login 2 (0x3E ∷ []) ++ (0 ∷ [])

-- Client Heartbeat of eleven bytes
abbrev heartbeat : List ℕ
heartbeat = 0xBA ∷ 0xBA ∷ 9 ∷ 0 ∷ 0x03 ∷ zeros 6

abbrev pub places : List Example
places =
    -- 000's New Order with length 73: 6 at its end, 75
    example 6 (reading (new_order 73)) (6 ∷ 75 ∷ [])
    -- eleven bitfields: 7 at the count byte, 35
    ∷ example 7 (reading (changed 35 0x0B)) (7 ∷ 35 ∷ [])
    -- a bit more in its second bitfield: 8 there; in the second and the third: the second
    ∷ example 8 (reading (changed 37 0xC9)) (8 ∷ 37 ∷ [])
    ∷ example 8 (reading (changed_twice 37 0xC9 38 0x03)) (8 ∷ 37 ∷ [])
    -- without Symbol: 9 at its last bitfield, 38; without bitfields: at the count byte
    ∷ example 9 (reading (changed 37 0xC0)) (9 ∷ 38 ∷ [])
    ∷ example 9 (reading bare) (9 ∷ 35 ∷ [])
    -- 10: Account's first byte; Side; Side and Account; OrderQty 0; Account's last byte, told at its first
    ∷ example 10 (reading (changed 60 0x07)) (10 ∷ 60 ∷ [])
    ∷ example 10 (reading (changed 30 0)) (10 ∷ 30 ∷ [])
    ∷ example 10 (reading (changed_twice 30 0 60 0x07)) (10 ∷ 30 ∷ [])
    ∷ example 10 (reading (changed_twice 31 0 32 0)) (10 ∷ 31 ∷ [])
    ∷ example 10 (reading (changed 75 0x07)) (10 ∷ 60 ∷ [])
    -- Symbol and Account: the first of them
    ∷ example 10 (reading (changed_twice 47 0x2D 60 0x07)) (10 ∷ 47 ∷ [])
    -- 002's login: Username; a byte too many; a heartbeat of eleven bytes
    ∷ example 10 (reading misnamed) (10 ∷ 14 ∷ [])
    ∷ example 6 (reading longer) (6 ∷ 64 ∷ [])
    ∷ example 6 (reading heartbeat) (6 ∷ 11 ∷ [])
    -- 000's Cancel with bit 2: 8 at 31; with three bitfields: 7 at 30
    ∷ example 8 (reading (cancel_order 34 (1 ∷ 2 ∷ test))) (8 ∷ 31 ∷ [])
    ∷ example 7 (reading (cancel_order 34 (3 ∷ 1 ∷ test))) (7 ∷ 30 ∷ [])
    -- written: Symbol's slot is at 27 of the layout, and Symbol would stand at 47 of the message; a second bitfield with an unlisted bit; no Symbol
    ∷ example 10 (writing (held (slots_place + 27) 0x2D)) (10 ∷ 47 ∷ [])
    ∷ example 8 (writing (held (bits_place + 1) 0xC9)) (8 ∷ 37 ∷ [])
    ∷ example 9 (writing (held (bits_place + 1) 0xC0)) (9 ∷ 38 ∷ [])
    ∷ []

-- every refusal is told with its place
pub places_hold : map (λ (e : Example). e.answered) places ≡ map (λ (e : Example). e.stated) places
unfolding patched length_of total_of number_of not_ba starts_bad length_bad cut_short frame_refusal framed carries read_refusal own_refusal record_of record_size_of own_write write_call session_record_bytes record_bytes record_at orders.read_refusal orders.head_refusal orders.block_refusal orders.body_refusal orders.rest_of middles.middle_size middles.middle_good lates.lacks lates.conflicts lates.late_refusal orders.bits_of orders.optional_of orders.fixed_of orders.layout_of orders.record_of orders.write_slots orders.write_rest orders.zero_unused orders.size_of orders.write_refusal count_at most_of unit_good fixed_good fixed_fields fixed_wrong selected_at entry_at dictionary.entry_of slots_from has_required sessions.read_refusal sessions.fixed_size sessions.values_good value_fields values_wrong sessions.flag_good sessions.lists_end sessions.body_end groups.units_from groups.pairs_good groups.bits_good groups.group_key groups.group_size groups.next_size groups.groups_from
places_hold = refl
