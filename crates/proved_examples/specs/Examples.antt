-- The worked examples of document 01, as one table: what the definitions answer beside what the document says. The one proof that the two
-- columns are the same stands in proofs/ExamplesHold.antt. Assumes nothing.
use Rattle.std.specs.Prelude.{Bool, cond, List, [], ◌∷◌, ◌++◌, ℕ, suc, ◌+◌, ◌-◌, ◌*◌, ℤ, pos, negsuc, length, take, drop}
use Rattle.refusals.specs.Told.{number_in}
use Rattle.numbers.specs.Numbers.{number_at}
use Rattle.numbers.specs.Prices.{price_at}
use Rattle.wire.specs.Header.{total_of, type_of}
use Rattle.wire.specs.Frame.{frame_refusal}
use Rattle.table.specs.Table.{zero_table, step_of}
use Rattle.pulse.specs.Pulse.{heartbeat_due}
use Rattle.dictionary.specs.Dictionary as dictionary
use Rattle.block.specs.Slots.{zeros, Slot, takes, width, sum}
use Rattle.block.specs.Places.{slots_of}
use Rattle.orders.specs.Shapes.{count_at}
use Rattle.orders.specs.Orders as orders
use Rattle.session_groups.specs.Groups as groups
use Rattle.session_messages.specs.Sessions as sessions
use Rattle.messages.specs.Messages.{record_of, read_refusal}

-- a line of the table: the example's number, what the definitions answer, what document 01 says
pub record Example : Type 0 where
  pub number : ℕ
  pub answered : List ℕ
  pub stated : List ℕ

-- a line of its three parts
abbrev pub example : ℕ → List ℕ → List ℕ → Example
example p a s = record { number = p; answered = a; stated = s }

-- a price in ten-thousandths: 0 or 1 for its sign, and its magnitude
abbrev told : ℤ → List ℕ
told (pos n) = 0 ∷ n ∷ []
told (negsuc n) = 1 ∷ suc n ∷ []

-- the number of the refusal of a member's message, or 0
abbrev refusal_of : List ℕ → ℕ
refusal_of m = number_in (read_refusal 0 m)

-- yes is 1 and no is 0
abbrev yes : Bool → ℕ
yes b = cond b 1 0

-- the refusal of a number of unit 1 at a new day's table
abbrev at_zero : ℕ → ℕ
at_zero n = (step_of zero_table 1 n 16).refusal

-- the identifier ABC123, NUL-filled to 20
abbrev pub abc123 : List ℕ
abc123 = 0x41 ∷ 0x42 ∷ 0x43 ∷ 0x31 ∷ 0x32 ∷ 0x33 ∷ zeros 14

-- the bytes of 000's table 25, a New Order, with the length n, under 256
abbrev pub new_order : ℕ → List ℕ
new_order n =
    0xBA ∷ 0xBA ∷ n ∷ 0 ∷ 0x38 ∷ 0 ∷ 0x64 ∷ 0 ∷ 0 ∷ 0 ∷ abc123
    ++ (0x31 ∷ 0xE8 ∷ 0x03 ∷ 0 ∷ 0 ∷ 0x03 ∷ 0x04 ∷ 0xC1 ∷ 0x01 ∷ [])
    ++ (0x44 ∷ 0xD6 ∷ 0x12 ∷ zeros 5)
    ++ (0x4D ∷ 0x53 ∷ 0x46 ∷ 0x54 ∷ zeros 4)
    ++ (0x50 ∷ 0x52 ∷ 0 ∷ 0 ∷ 0 ∷ [])
    ++ (0x44 ∷ 0x45 ∷ 0x46 ∷ 0x47 ∷ zeros 12)

-- the bytes of 000's table 27, a Cancel Order, with the length n, under 256, and what follows the identifier
abbrev pub cancel_order : ℕ → List ℕ → List ℕ
cancel_order n rest = 0xBA ∷ 0xBA ∷ n ∷ 0 ∷ 0x39 ∷ 0 ∷ 0x64 ∷ 0 ∷ 0 ∷ 0 ∷ abc123 ++ rest

-- the ClearingFirm TEST
abbrev pub test : List ℕ
test = 0x54 ∷ 0x45 ∷ 0x53 ∷ 0x54 ∷ []

-- the slots of a message m before the field of a bitfield byte, from 1, and a bit (1, 2, 4 to 128)
abbrev slots_before : List ℕ → ℕ → ℕ → List Slot
slots_before m byte bit = take (8 * (byte - 1) + dictionary.index_of bit) (slots_of (type_of m) (orders.count_of m) (orders.bits_of m))

-- where that field starts in the message: after the count, the bitfields and what these slots take
abbrev start_of : List ℕ → ℕ → ℕ → ℕ
start_of m byte bit = count_at (type_of m) + 1 + orders.count_of m + sum takes (slots_before m byte bit)

-- what the message has from there on
abbrev sent_from : List ℕ → ℕ → ℕ → List ℕ
sent_from m byte bit = drop (start_of m byte bit) m

-- what its record holds from the field's slot on
abbrev held_from : List ℕ → ℕ → ℕ → List ℕ
held_from m byte bit = drop (sum width (slots_before m byte bit)) (orders.record_of m).slots

-- Price, Symbol, Capacity, RoutingInst and Account, by what a message or its record has from each on
abbrev five_fields : (ℕ → ℕ → List ℕ) → List ℕ
five_fields from = told (price_at 0 (from 1 4)) ++ take 8 (from 2 1) ++ take 1 (from 2 64) ++ take 4 (from 2 128) ++ take 16 (from 3 1)

-- 123.4500, MSFT, P, R and DEFG
abbrev five_values : List ℕ
five_values =
    0 ∷ 1234500 ∷ 0x4D ∷ 0x53 ∷ 0x46 ∷ 0x54 ∷ zeros 4
    ++ (0x50 ∷ 0x52 ∷ 0 ∷ 0 ∷ 0 ∷ 0x44 ∷ 0x45 ∷ 0x46 ∷ 0x47 ∷ zeros 12)

-- the bytes of 002's Login Request: header; SessionSubID 0001, Username TEST, Password TESTING; three groups, of the units, of 0x25, of 0x2C
abbrev pub login : List ℕ
login =
    0xBA ∷ 0xBA ∷ 0x3D ∷ 0 ∷ 0x37 ∷ zeros 5
    ++ (0x30 ∷ 0x30 ∷ 0x30 ∷ 0x31 ∷ test)
    ++ (0x54 ∷ 0x45 ∷ 0x53 ∷ 0x54 ∷ 0x49 ∷ 0x4E ∷ 0x47 ∷ zeros 3)
    ++ (0x03 ∷ 0x0F ∷ 0 ∷ 0x80 ∷ 0x01 ∷ 0x02 ∷ 0x01 ∷ 0x4A ∷ 0xBB ∷ 0x01 ∷ 0 ∷ 0x02 ∷ zeros 4)
    ++ (0x08 ∷ 0 ∷ 0x81 ∷ 0x25 ∷ 0x03 ∷ 0 ∷ 0x41 ∷ 0x05 ∷ [])
    ++ (0x0B ∷ 0 ∷ 0x81 ∷ 0x2C ∷ 0x06 ∷ 0 ∷ 0x41 ∷ 0x07 ∷ 0 ∷ 0x40 ∷ 0 ∷ [])

-- the kind of the group at the front of s, 1 for the units; and, after its five bytes, the unit of its first pair and that unit's last number
abbrev first_pair : List ℕ → List ℕ
first_pair s = groups.group_key s ∷ groups.unit_at (drop 5 s) 0 ∷ number_at 4 1 (drop 5 s) ∷ []

-- the units; unit 1 at 113,482
abbrev unit_one : List ℕ
unit_one = 1 ∷ 1 ∷ 113482 ∷ []

-- P1 to P14 of document 01
abbrev pub examples : List Example
examples =
    -- 12.3400, -12.3400, -0.0001, -922337203685477.5808
    example 1 (told (price_at 0 (0x08 ∷ 0xE2 ∷ 0x01 ∷ 0 ∷ 0 ∷ 0 ∷ 0 ∷ 0 ∷ []))) (0 ∷ 123400 ∷ [])
    ∷ example 2 (told (price_at 0 (0xF8 ∷ 0x1D ∷ 0xFE ∷ 0xFF ∷ 0xFF ∷ 0xFF ∷ 0xFF ∷ 0xFF ∷ []))) (1 ∷ 123400 ∷ [])
    ∷ example 3 (told (price_at 0 (0xFF ∷ 0xFF ∷ 0xFF ∷ 0xFF ∷ 0xFF ∷ 0xFF ∷ 0xFF ∷ 0xFF ∷ []))) (1 ∷ 1 ∷ [])
    ∷ example 4 (told (price_at 0 (0 ∷ 0 ∷ 0 ∷ 0 ∷ 0 ∷ 0 ∷ 0 ∷ 0x80 ∷ []))) (1 ∷ 9223372036854775808 ∷ [])
    -- 000's New Order: accepted, total 76, Price at 39, Symbol 47, Capacity 55, RoutingInst 56, Account 60
    ∷ example 5
    (refusal_of (new_order 74) ∷ total_of (new_order 74) ∷ start_of (new_order 74) 1 4 ∷ start_of (new_order 74) 2 1 ∷ start_of (new_order 74) 2 64 ∷ start_of (new_order 74) 2 128 ∷ start_of (new_order 74) 3 1 ∷ [])
    (0 ∷ 76 ∷ 39 ∷ 47 ∷ 55 ∷ 56 ∷ 60 ∷ [])
    -- and there it has 123.4500, MSFT, P, R and DEFG, as its record does
    ∷ example 5 (five_fields (sent_from (new_order 74))) five_values
    ∷ example 5 (five_fields (held_from (new_order 74))) five_values
    -- with length 73, as its notes have it: 6
    ∷ example 6 (refusal_of (new_order 73) ∷ []) (6 ∷ [])
    -- 000's Cancel: accepted, total 36
    ∷ example 7 (refusal_of (cancel_order 34 (1 ∷ 1 ∷ test)) ∷ total_of (cancel_order 34 (1 ∷ 1 ∷ test)) ∷ []) (0 ∷ 36 ∷ [])
    -- with count 0: accepted, 31 bytes
    ∷ example 8 (refusal_of (cancel_order 29 (0 ∷ [])) ∷ length (cancel_order 29 (0 ∷ [])) ∷ []) (0 ∷ 31 ∷ [])
    -- with bit 2: 8
    ∷ example 9 (refusal_of (cancel_order 34 (1 ∷ 2 ∷ test)) ∷ []) (8 ∷ [])
    -- with count 3: 7, whether or not three bitfields follow
    ∷ example 10 (refusal_of (cancel_order 34 (3 ∷ 1 ∷ test)) ∷ refusal_of (cancel_order 36 (3 ∷ 1 ∷ 0 ∷ 0 ∷ test)) ∷ []) (7 ∷ 7 ∷ [])
    -- entry 0: number 1 is taken, 2 is 15, 0 is 14
    ∷ example 11 (at_zero 1 ∷ at_zero 2 ∷ at_zero 0 ∷ []) (0 ∷ 15 ∷ 14 ∷ [])
    -- last sent at 4,294,967,290: due at 994, not at 993
    ∷ example 12 (yes (heartbeat_due 994 4294967290) ∷ yes (heartbeat_due 993 4294967290) ∷ []) (1 ∷ 0 ∷ [])
    -- no bytes: 3; BA 00: 1
    ∷ example 13 (frame_refusal [] ∷ frame_refusal (0xBA ∷ 0x00 ∷ []) ∷ []) (3 ∷ 1 ∷ [])
    -- 002's login: accepted, total 63, and so many bytes
    ∷ example 14 (refusal_of login ∷ total_of login ∷ length login ∷ []) (0 ∷ 63 ∷ 63 ∷ [])
    -- and its first group, after header and fixed part, has unit 1 at 113,482, as its record does after type, unit, number and fixed part
    ∷ example 14 (first_pair (drop (10 + sessions.fixed_size 0x37) login)) unit_one
    ∷ example 14 (first_pair (drop (6 + sessions.fixed_size 0x37) (record_of login))) unit_one
    ∷ []
