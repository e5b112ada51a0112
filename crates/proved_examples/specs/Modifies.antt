-- Modify Order and Purge Orders of request 1, computed: 000's three examples, as printed and mended, and what is refused beside them. Assumes nothing.
use Rattle.std.specs.Prelude.{◌≡◌, refl, List, [], ◌∷◌, ◌++◌, map, ℕ, ◌+◌, length}
use Rattle.refusals.specs.Told.{number_in, place_in}
use Rattle.numbers.specs.Numbers.{patched}
use Rattle.wire.specs.Header.{length_of, total_of, number_of}
use Rattle.wire.specs.Frame.{not_ba, starts_bad, length_bad, cut_short, frame_refusal, framed}
use Rattle.dictionary.specs.Dictionary as dictionary
use Rattle.block.specs.Slots.{zeros}
use Rattle.block.specs.Sizes.{bits_place, slots_place}
use Rattle.block.specs.Places.{selected_at, entry_at, slots_from, has_required}
use Rattle.orders.specs.Shapes.{count_at, most_of, unit_good, fixed_good}
use Rattle.orders.specs.FixedFields.{fixed_fields, fixed_wrong}
use Rattle.orders.specs.Middle as middles
use Rattle.orders.specs.Late as lates
use Rattle.orders.specs.Markets as markets
use Rattle.orders.specs.Orders as orders
use Rattle.order_records.specs.Records.{record_bytes, record_at}
use Rattle.session_groups.specs.Groups as groups
use Rattle.session_messages.specs.ValueFields.{value_fields, values_wrong}
use Rattle.session_messages.specs.Sessions as sessions
use Rattle.messages.specs.Messages.{carries, session_record_bytes, own_refusal, record_of, read_refusal, record_size_of, own_write, message_of, write_call, write_out}
use Rattle.proved_examples.specs.Examples.{Example, example, abc123, test}

-- from the member: the refusal's number and its place, of reading and of writing a record
abbrev reading : List ℕ → List ℕ
reading m = number_in (read_refusal 0 m) ∷ place_in (read_refusal 0 m) ∷ []

abbrev writing : List ℕ → List ℕ
writing r = number_in (write_call 0 r 2048) ∷ place_in (write_call 0 r 2048) ∷ []

-- the message that is written of the record that is read of it
abbrev again : List ℕ → List ℕ
again m = write_out 0 (record_of m) (zeros (length m))

-- the header of a member's message of a type and a length, under 256, with number 100
abbrev headed : ℕ → ℕ → List ℕ
headed n type = 0xBA ∷ 0xBA ∷ n ∷ 0 ∷ type ∷ 0 ∷ 0x64 ∷ 0 ∷ 0 ∷ 0 ∷ []

-- ABC124, ABC123; then what follows: the count, the bitfields, the fields
abbrev modify : List ℕ → List ℕ
modify rest = headed (48 + length rest) 0x3A ++ (0x41 ∷ 0x42 ∷ 0x43 ∷ 0x31 ∷ 0x32 ∷ 0x34 ∷ zeros 14) ++ abc123 ++ rest

-- OrderQty 12,000; Price 12.34
abbrev quantity : List ℕ
quantity = 0xE0 ∷ 0x2E ∷ 0 ∷ 0 ∷ []

abbrev price : List ℕ
price = 0x08 ∷ 0xE2 ∷ 0x01 ∷ 0 ∷ 0 ∷ 0 ∷ 0 ∷ 0 ∷ []

-- 000's table 29
abbrev table29 : List ℕ
table29 = modify (1 ∷ 0x0C ∷ quantity ++ price)

-- OrderQty and OrdType, without Price
abbrev typed : ℕ → List ℕ
typed type = modify (1 ∷ 0x14 ∷ quantity ++ (type ∷ []))

-- a Purge Orders of a length with a reserved byte; MassCancelInst of three characters
abbrev purge : ℕ → List ℕ → List ℕ
purge n rest = headed n 0x47 ++ (0 ∷ rest)

abbrev inst : ℕ → ℕ → ℕ → List ℕ
inst a b c = a ∷ b ∷ c ∷ zeros 13

-- ABC123 as a MassCancelID; ABCDE as a Symbol
abbrev abcde : List ℕ
abcde = 0x41 ∷ 0x42 ∷ 0x43 ∷ 0x44 ∷ 0x45 ∷ zeros 3

-- 000's tables 31 and 32, of a length
abbrev table31 : ℕ → List ℕ
table31 n = purge n (1 ∷ 0x15 ∷ 2 ∷ 0xBF ∷ 0xBE ∷ 0xC0 ∷ 0xBE ∷ test ++ (inst 0x46 0x53 0x4C ++ abc123))

abbrev table32 : ℕ → List ℕ
table32 n = purge n (2 ∷ 0x15 ∷ 0x01 ∷ 0 ∷ test ++ (inst 0x46 0x53 0x4C ++ (abc123 ++ abcde)))

-- MassCancelInst alone, with no RiskGroupIDs; with n of them and an agreeing total; and with Symbol and MatchingUnit
abbrev alone : List ℕ → List ℕ
alone i = purge 28 (1 ∷ 4 ∷ 0 ∷ i)

abbrev grouped : ℕ → List ℕ → List ℕ
grouped n ids = purge (28 + length ids) (1 ∷ 4 ∷ n ∷ ids ++ inst 0x41 0 0)

abbrev placed : ℕ → ℕ → List ℕ → List ℕ
placed bits unit symbol = purge (30 + length symbol) (2 ∷ 4 ∷ bits ∷ 0 ∷ inst 0x41 0 0 ++ (symbol ++ (unit ∷ [])))

-- the record of MassCancelInst A alone with a byte changed
abbrev changed : ℕ → ℕ → List ℕ
changed place x = patched (record_of (alone (inst 0x41 0 0))) place (x ∷ [])

abbrev pub modifies : List Example
modifies =
    -- table 29 is read, its total is 64, and what is written again is the same
    example 29 (reading table29 ++ (total_of table29 ∷ [])) (0 ∷ 0 ∷ 64 ∷ [])
    ∷ example 29 (again table29) table29
    -- OrdType 1 without Price is taken; 2 and blank: 9, late; a character against its kind: 10 at its place
    ∷ example 9 (reading (typed 0x31) ++ reading (typed 0x32) ++ reading (typed 0) ++ reading (typed 0x2D)) (0 ∷ 0 ∷ 9 ∷ 51 ∷ 9 ∷ 51 ∷ 10 ∷ 56 ∷ [])
    -- OrderQty alone: 9, also with three bytes more, since 8 and 9 come before 6; Price alone: 9; count 0: 9 at the count byte
    ∷ example 9 (reading (modify (1 ∷ 4 ∷ quantity)) ++ reading (modify (1 ∷ 4 ∷ quantity ++ zeros 3)) ++ reading (modify (1 ∷ 8 ∷ price)) ++ reading (modify (0 ∷ []))) (9 ∷ 51 ∷ 9 ∷ 51 ∷ 9 ∷ 51 ∷ 9 ∷ 50 ∷ [])
    -- a blank OrigClOrdID: 10 at 30; a bit that is not listed: 8; three bitfields: 7
    ∷ example 10 (reading (patched table29 30 (zeros 20)) ++ reading (patched table29 51 (0x0E ∷ [])) ++ reading (patched table29 50 (3 ∷ []))) (10 ∷ 30 ∷ 8 ∷ 51 ∷ 7 ∷ 50 ∷ [])
    -- table 31 as printed says 43 where its counts give 58: 6; mended it is read, and what is written again is the same
    ∷ example 31 (reading (table31 0x29) ++ reading (table31 0x38)) (6 ∷ 43 ∷ 0 ∷ 0 ∷ [])
    ∷ example 31 (again (table31 0x38)) (table31 0x38)
    -- table 32 as printed says 65 where 63 are given: 3, and 6 with two bytes more; mended it is read
    ∷ example 32 (reading (table32 0x3F) ++ reading (table32 0x3F ++ zeros 2) ++ reading (table32 0x3D)) (3 ∷ 0 ∷ 6 ∷ 65 ∷ 0 ∷ 0 ∷ [])
    ∷ example 32 (again (table32 0x3D)) (table32 0x3D)
    -- MassCancelInst A is taken; blank: 10 at its place; F without firm and S without id: 9, late; L without F: 23; S and L: 9 comes first
    ∷ example 23 (reading (alone (inst 0x41 0 0)) ++ reading (alone (zeros 16)) ++ reading (alone (inst 0x46 0 0)) ++ reading (alone (inst 0x41 0x53 0))) (0 ∷ 0 ∷ 10 ∷ 14 ∷ 9 ∷ 12 ∷ 9 ∷ 12 ∷ [])
    ∷ example 23 (reading (alone (inst 0x41 0x4D 0x4C)) ++ reading (alone (inst 0x41 0x53 0x4C))) (23 ∷ 0 ∷ 9 ∷ 12 ∷ [])
    -- Symbol with MatchingUnit 0: taken; with 3: 23; MatchingUnit 3 alone: taken
    ∷ example 23 (reading (placed 0x81 0 (0x41 ∷ 0x42 ∷ 0x43 ∷ zeros 5)) ++ reading (placed 0x81 3 (0x41 ∷ 0x42 ∷ 0x43 ∷ zeros 5)) ++ reading (placed 0x80 3 [])) (0 ∷ 0 ∷ 23 ∷ 0 ∷ 0 ∷ 0 ∷ [])
    -- ten RiskGroupIDs are taken, eleven with an agreeing total: 10 at RiskGroupIDCnt; a message that ends before it: 6
    ∷ example 10 (reading (grouped 10 (zeros 20)) ++ reading (grouped 11 (zeros 22)) ++ reading (purge 11 (1 ∷ 4 ∷ []))) (0 ∷ 0 ∷ 10 ∷ 13 ∷ 6 ∷ 13 ∷ [])
    -- writing: in a record of MassCancelInst alone MatchingUnit 3, which is not selected, and an id that is not counted: 12; with Symbol's bit set and
    -- MatchingUnit's not: 12; RiskGroupIDCnt 11: 10 at the byte after the bitfields
    ∷ example 12 (writing (changed (slots_place + 56) 3) ++ writing (changed 8 1) ++ writing (changed 7 11)) (12 ∷ 0 ∷ 12 ∷ 0 ∷ 10 ∷ 13 ∷ [])
    ∷ example 12 (writing (patched (patched (changed (slots_place + 56) 3) 96 (2 ∷ [])) bits_place (4 ∷ 1 ∷ []))) (12 ∷ 0 ∷ [])
    ∷ []

-- each is answered as it is told
pub modifies_hold : map (λ (e : Example). e.answered) modifies ≡ map (λ (e : Example). e.stated) modifies
unfolding patched markets.typed write_out message_of orders.order_bytes length_of total_of number_of not_ba starts_bad length_bad cut_short frame_refusal framed carries read_refusal own_refusal record_of record_size_of own_write write_call session_record_bytes record_bytes record_at orders.read_refusal orders.head_refusal orders.block_refusal orders.body_refusal orders.rest_of middles.middle_size middles.middle_good lates.lacks lates.conflicts lates.late_refusal orders.bits_of orders.optional_of orders.fixed_of orders.layout_of orders.record_of orders.write_slots orders.write_rest orders.zero_unused orders.size_of orders.write_refusal count_at most_of unit_good fixed_good fixed_fields fixed_wrong selected_at entry_at dictionary.entry_of slots_from has_required sessions.read_refusal sessions.fixed_size sessions.values_good value_fields values_wrong sessions.flag_good sessions.lists_end sessions.body_end groups.units_from groups.pairs_good groups.bits_good groups.group_key groups.group_size groups.next_size groups.groups_from
modifies_hold = refl
