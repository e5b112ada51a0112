-- The options New Order of request 4, computed: 002's example under a header of ours, what is refused beside it, and each market's orders in the other.
-- Assumes nothing.
use Rattle.std.specs.Prelude.{◌≡◌, refl, List, [], ◌∷◌, ◌++◌, map, ℕ, ◌+◌, length, get_or, take, drop}
use Rattle.refusals.specs.Told.{number_in, place_in}
use Rattle.numbers.specs.Numbers.{patched}
use Rattle.calendar.specs.Calendar.{leap, days_in, is_day}
use Rattle.wire.specs.Header.{length_of, total_of, number_of}
use Rattle.wire.specs.Frame.{not_ba, starts_bad, length_bad, cut_short, frame_refusal, framed}
use Rattle.dictionary.specs.Dictionary as dictionary
use Rattle.block.specs.Slots.{zeros}
use Rattle.block.specs.Sizes.{slots_place}
use Rattle.block.specs.Places.{selected_at, entry_at, slots_from, has_required}
use Rattle.orders.specs.Shapes.{count_at, most_of, unit_good, fixed_good}
use Rattle.orders.specs.Markets.{typed}
use Rattle.orders.specs.FixedFields.{fixed_fields, fixed_wrong}
use Rattle.orders.specs.Middle as middles
use Rattle.orders.specs.Late as lates
use Rattle.orders.specs.Orders as orders
use Rattle.order_records.specs.Records.{record_bytes, record_at}
use Rattle.session_groups.specs.Groups as groups
use Rattle.session_messages.specs.ValueFields.{value_fields, values_wrong}
use Rattle.session_messages.specs.Sessions as sessions
use Rattle.messages.specs.Messages.{carries, heard, session_record_bytes, own_refusal, record_of, read_refusal, record_size_of, own_write, message_of, write_call, write_out}
use Rattle.proved_examples.specs.Examples.{Example, example, abc123, new_order, login}

-- the refusal's number and its place in a direction: 0 from an equities member, 1 from the venue, 2 from an options member
abbrev reading : ℕ → List ℕ → List ℕ
reading direction m = number_in (read_refusal direction m) ∷ place_in (read_refusal direction m) ∷ []

abbrev writing : ℕ → List ℕ → List ℕ
writing direction r = number_in (write_call direction r 2048) ∷ place_in (write_call direction r 2048) ∷ []

-- the record of a message, and the message that is written of it
abbrev kept : ℕ → List ℕ → List ℕ
kept direction m = record_of (heard direction m)

abbrev again : ℕ → List ℕ → List ℕ
again direction m = write_out direction (kept direction m) (zeros (length m))

-- MSFT; DEFG
abbrev msft : List ℕ
msft = 0x4D ∷ 0x53 ∷ 0x46 ∷ 0x54 ∷ zeros 4

abbrev defg : List ℕ
defg = 0x44 ∷ 0x45 ∷ 0x46 ∷ 0x47 ∷ zeros 12

-- 002's example with a maturity, under a header of ours with number 1, ABC123, side 1 and 10 contracts: four bitfields; Price 0.60, MSFT, C, R and DEFG; the
-- maturity, StrikePrice 17.50, a call that opens
abbrev option : List ℕ → List ℕ
option maturity =
    0xBA ∷ 0xBA ∷ 0x59 ∷ 0 ∷ 0x38 ∷ 0 ∷ 1 ∷ 0 ∷ 0 ∷ 0 ∷ abc123
    ++ (0x31 ∷ 0x0A ∷ 0 ∷ 0 ∷ 0 ∷ 4 ∷ 0x04 ∷ 0xC1 ∷ 0x01 ∷ 0x17 ∷ [])
    ++ (0x70 ∷ 0x17 ∷ zeros 6)
    ++ (msft ++ (0x43 ∷ 0x52 ∷ 0 ∷ 0 ∷ 0 ∷ defg))
    ++ (maturity ++ (0x98 ∷ 0xAB ∷ 0x02 ∷ 0 ∷ 0 ∷ 0 ∷ 0 ∷ 0 ∷ 0x31 ∷ 0x4F ∷ []))

-- 2011-03-19, as 002 has it
abbrev table : List ℕ
table = option (0xEF ∷ 0xDB ∷ 0x32 ∷ 0x01 ∷ [])

-- 000's New Order with SymbolSfx, eight blank bytes after Symbol; and with a sixth bitfield, in which bit 1 is set
abbrev suffixed : List ℕ
suffixed = patched (take 55 (new_order 0x52) ++ (zeros 8 ++ drop 55 (new_order 0x52))) 37 (0xC3 ∷ [])

abbrev ranged : List ℕ
ranged = patched (take 39 (new_order 0x51) ++ (0 ∷ 0 ∷ 1 ∷ drop 39 (new_order 0x51) ++ zeros 4)) 35 (6 ∷ [])

-- a message with another type
abbrev renamed : ℕ → List ℕ → List ℕ
renamed type m = patched m 4 (type ∷ [])

abbrev pub options : List Example
options =
    -- 002's example is read, its total is 91, its record's type is B8, and what is written again is the same; to an equities member it has a bitfield 4: 8
    example 2 (reading 2 table ++ (total_of table ∷ get_or (kept 2 table) 0 0 ∷ [])) (0 ∷ 0 ∷ 91 ∷ 0xB8 ∷ [])
    ∷ example 2 (again 2 table) table
    ∷ example 8 (reading 0 table) (8 ∷ 39 ∷ [])
    -- what the record holds of byte 4: the maturity at slot 56, then StrikePrice, PutOrCall and OpenClose
    ∷ example 2 (take 14 (drop (slots_place + 56) (kept 2 table))) (take 14 (drop 77 table))
    -- a maturity that is no day: 20110229, 0, 21000101; 20240229 and 20991231 are days
    ∷ example 10 (reading 2 (option (0x95 ∷ 0xDB ∷ 0x32 ∷ 0x01 ∷ [])) ++ reading 2 (option (zeros 4)) ++ reading 2 (option (0xA5 ∷ 0x6F ∷ 0x40 ∷ 0x01 ∷ []))) (10 ∷ 77 ∷ 10 ∷ 77 ∷ 10 ∷ 77 ∷ [])
    ∷ example 10 (reading 2 (option (0x65 ∷ 0xD7 ∷ 0x34 ∷ 0x01 ∷ [])) ++ reading 2 (option (0xFF ∷ 0x4C ∷ 0x40 ∷ 0x01 ∷ []))) (0 ∷ 0 ∷ 0 ∷ 0 ∷ [])
    -- and in a record: 10 at the place that it would have; where its bit is off, which takes four bytes of the message, 12
    ∷ example 10 (writing 2 (patched (kept 2 table) (slots_place + 56) (zeros 4)) ++ writing 2 (patched (kept 2 table) 100 (0x16 ∷ []))) (10 ∷ 77 ∷ 12 ∷ 0 ∷ [])
    -- 000's New Order has bits that both markets have: it is read in both, and its records differ; with SymbolSfx, and with DisplayRange, in one only
    ∷ example 8 (reading 0 (new_order 0x4A) ++ reading 2 (new_order 0x4A) ++ (get_or (kept 0 (new_order 0x4A)) 0 0 ∷ get_or (kept 2 (new_order 0x4A)) 0 0 ∷ [])) (0 ∷ 0 ∷ 0 ∷ 0 ∷ 0x38 ∷ 0xB8 ∷ [])
    ∷ example 8 (reading 0 suffixed ++ reading 2 suffixed ++ reading 0 ranged ++ reading 2 ranged) (0 ∷ 0 ∷ 8 ∷ 37 ∷ 0 ∷ 0 ∷ 8 ∷ 41 ∷ [])
    -- OpenClose at bit 8: 8; Symbol not selected: 9; eleven bitfields: 7; no contracts: 10; a byte more: 6
    ∷ example 9 (reading 2 (patched table 39 (0x0F ∷ [])) ++ reading 2 (patched table 37 (0xC0 ∷ [])) ++ reading 2 (patched table 35 (11 ∷ []))) (8 ∷ 39 ∷ 9 ∷ 39 ∷ 7 ∷ 35 ∷ [])
    ∷ example 6 (reading 2 (patched table 31 (zeros 4)) ++ reading 2 (patched table 2 (0x5A ∷ []) ++ (0 ∷ []))) (10 ∷ 31 ∷ 6 ∷ 92 ∷ [])
    -- no direction but 0, 1 and 2 has a type; B8 is no type of a message
    ∷ example 4 (reading 3 table ++ reading 0 (renamed 0xB8 table) ++ reading 1 (renamed 0xB8 table) ++ reading 2 (renamed 0xB8 table)) (4 ∷ 0 ∷ 4 ∷ 0 ∷ 4 ∷ 0 ∷ 4 ∷ 0 ∷ [])
    -- a record of the other market: 4
    ∷ example 4 (writing 0 (kept 2 table) ++ writing 1 (kept 2 table) ++ writing 2 (kept 0 (new_order 0x4A)) ++ writing 3 (kept 2 table)) (4 ∷ 0 ∷ 4 ∷ 0 ∷ 4 ∷ 0 ∷ 4 ∷ 0 ∷ [])
    -- an options member logs in as any member
    ∷ example 14 (reading 2 login) (0 ∷ 0 ∷ [])
    ∷ []

-- each is answered as it is told
pub options_hold : map (λ (e : Example). e.answered) options ≡ map (λ (e : Example). e.stated) options
unfolding patched typed is_day days_in leap write_out message_of orders.order_bytes length_of total_of number_of not_ba starts_bad length_bad cut_short frame_refusal framed carries read_refusal own_refusal record_of record_size_of own_write write_call session_record_bytes record_bytes record_at orders.read_refusal orders.head_refusal orders.block_refusal orders.body_refusal orders.rest_of middles.middle_size middles.middle_good lates.lacks lates.conflicts lates.late_refusal orders.bits_of orders.optional_of orders.fixed_of orders.layout_of orders.record_of orders.write_slots orders.write_rest orders.zero_unused orders.size_of orders.write_refusal count_at most_of unit_good fixed_good fixed_fields fixed_wrong selected_at entry_at dictionary.entry_of slots_from has_required sessions.read_refusal sessions.fixed_size sessions.values_good value_fields values_wrong sessions.flag_good sessions.lists_end sessions.body_end groups.units_from groups.pairs_good groups.bits_good groups.group_key groups.group_size groups.next_size groups.groups_from
options_hold = refl
