-- The fields of a session record, each by its place in the body: what is read there, and the record in which it is set.
-- Definitions alone. Assumes nothing.
use Rattle.std.specs.Prelude.{ℕ, zero, suc, ◌+◌, ◌-◌, ◌*◌, Bool, true, false, cond, ◌&&◌, ◌||◌, List, ◌++◌, leb, ltb, eqb, length, get_or, take, drop, Option, None, Some, option_map, option_and_then}
use Rattle.numbers.specs.Numbers.{number_at, patched, put_buffer}
use Rattle.numbers.specs.Values.{text_at}
use Rattle.block.specs.Slots.{zeros}
use Rattle.table.specs.declared.OutgoingNumber.{OutgoingNumber}
use Rattle.table.specs.declared.UnitNumber.{UnitNumber}
use Rattle.session_messages.specs.declared.Record.{Record}
use Rattle.session_fields.specs.declared.Bits.{Bits}
use Rattle.session_fields.specs.declared.Pair.{Pair}

-- ---- what is read: nothing in a record of another type

-- whether a record is of the type
abbrev pub is_of : ℕ → Record → Bool
is_of message r = eqb r.message message

-- a value of any kind of a message of the type, by what a place of the body holds
abbrev pub value_of : {A : Type 0} → (ℕ → List ℕ → A) → ℕ → ℕ → Record → Option A
value_of held message at r = cond (is_of message r) (Some (held at r.body)) None

-- a number of so many bytes
abbrev pub number_of : ℕ → ℕ → ℕ → Record → Option ℕ
number_of width = value_of (number_at width)

-- an outgoing number
abbrev pub outgoing_of : ℕ → ℕ → Record → Option OutgoingNumber
outgoing_of = value_of (λ at s. record { 0 = number_at 4 at s })

-- a text of so many bytes
abbrev pub text_of : ℕ → ℕ → ℕ → Record → Option (List ℕ)
text_of width = value_of (text_at width)

-- ---- pairs of unit (1) and last number (4)

-- the pair at a place, where it is there
abbrev pub pair_at : ℕ → List ℕ → Pair
pair_at at s = record { unit = record { 0 = get_or s at 0 }; number = record { 0 = number_at 4 (at + 1) s } }

abbrev pub pair_in : Bool → ℕ → List ℕ → Option Pair
pair_in b at s = cond b (Some (pair_at at s)) None

-- 01, The bit dictionary: there are at most 32 pairs. Pair i, from 0, of those whose count stands at a place is there where i is below the count.
abbrev pub has_pair : ℕ → ℕ → ℕ → Record → Bool
has_pair message at i r = is_of message r && (ltb i (get_or r.body at 0) && ltb i 32)

-- the pairs follow their count
unfoldable pub pair_of : ℕ → ℕ → ℕ → Record → Option Pair
pair_of message at i r = pair_in (has_pair message at i r) (at + 1 + 5 * i) r.body

-- ---- groups: length (2, of the whole group), type, flag or message type, number of entries, the entries

-- 01, The bit dictionary: a group of type 0x80 goes on with its flag, and one of type 0x81 with a message type.
-- Whether the group at a place is of type t and, if that is 0x81, for the message type x.
abbrev pub group_is : ℕ → ℕ → ℕ → List ℕ → Bool
group_is t x at s = eqb (get_or s (at + 2) 0) t && (eqb t 0x80 || eqb (get_or s (at + 3) 0) x)

-- the place of the first such of n groups from a place of the body on, where there is one. Each group's length leads to the next.
unfoldable pub group_from : ℕ → ℕ → ℕ → ℕ → List ℕ → Option ℕ
group_from zero t x at s = None
group_from (suc n) t x at s =
    cond (ltb at 433)
    (cond (group_is t x at s) (Some at) (group_from n t x (at + number_at 2 at s) s))
    None

-- of a Login Request: the count of its groups stands at 18, and they follow it
unfoldable pub request_group : ℕ → ℕ → Record → Option ℕ
request_group t x r = cond (is_of 0x37 r) (group_from (get_or r.body 18 0) t x 19 r.body) None

-- of a Login Response: where the count of its groups stands, after its pairs; they follow it
abbrev pub response_count : List ℕ → ℕ
response_count s = 67 + 5 * get_or s 66 0

-- the group of a type, and for a message type, as above
unfoldable pub response_group : ℕ → ℕ → Record → Option ℕ
response_group t x r = cond (is_of 0x24 r) (group_from (get_or r.body (response_count r.body) 0) t x (response_count r.body + 1) r.body) None

-- the number of its groups
unfoldable pub response_groups : Record → Option ℕ
response_groups r = cond (is_of 0x24 r) (Some (get_or r.body (response_count r.body) 0)) None

-- the flag of the units' group, by its place
abbrev pub flag_in : Option ℕ → List ℕ → Option ℕ
flag_in p s = option_map (λ at. get_or s (at + 3) 0) p

unfoldable pub group_flag : Option ℕ → Record → Option ℕ
group_flag p r = flag_in p r.body

-- whether the units' group at a place has pair i
abbrev pub has_entry : ℕ → ℕ → List ℕ → Bool
has_entry at i s = ltb i (get_or s (at + 4) 0) && ltb i 32

-- its pair i, from 0
abbrev pub entry_in : Option ℕ → ℕ → List ℕ → Option Pair
entry_in p i s = option_and_then (λ at. pair_in (has_entry at i s) (at + 5 + 5 * i) s) p

unfoldable pub group_pair : Option ℕ → ℕ → Record → Option Pair
group_pair p i r = entry_in p i r.body

-- the first of n pairs from pair i on that is for a unit: its place among the pairs, from 0, where there is one
unfoldable pub listed_from : ℕ → ℕ → ℕ → ℕ → List ℕ → Option ℕ
listed_from zero unit i at s = None
listed_from (suc n) unit i at s = cond (eqb (get_or s (at + 5 * i) 0) unit) (Some i) (listed_from n unit (suc i) at s)

-- the number of pair i of the units' group at a place
abbrev pub entry_number : ℕ → List ℕ → ℕ → UnitNumber
entry_number at s i = record { 0 = number_at 4 (at + 6 + 5 * i) s }

-- the number that the units' group at a place lists for a unit
abbrev pub listed_at : ℕ → ℕ → List ℕ → Option UnitNumber
listed_at at unit s = option_map (entry_number at s) (listed_from (get_or s (at + 4) 0) unit 0 (at + 5) s)

abbrev pub listed_in : Option ℕ → ℕ → List ℕ → Option UnitNumber
listed_in p unit s = option_and_then (λ at. listed_at at unit s) p

-- the number of a listed unit
unfoldable pub group_listed : Option ℕ → ℕ → Record → Option UnitNumber
group_listed p unit r = listed_in p unit r.body

-- of a group of bitfields, by its place: up to 15 of them, all within the body
abbrev pub has_bits : ℕ → List ℕ → Bool
has_bits at s = leb (get_or s (at + 4) 0) 15 && leb (at + 5 + get_or s (at + 4) 0) (length s)

-- n bitfields from a place on: their count, and the bytes, zero after them
abbrev pub bits_at : ℕ → ℕ → List ℕ → Bits
bits_at n at s = record { count = n; bits = take n (drop at s) ++ zeros (15 - n) }

-- those of a group
abbrev pub bits_in : Option ℕ → List ℕ → Option Bits
bits_in p s = option_and_then (λ at. cond (has_bits at s) (Some (bits_at (get_or s (at + 4) 0) (at + 5) s)) None) p

unfoldable pub group_bits : Option ℕ → Record → Option Bits
group_bits p r = bits_in p r.body

-- a buffer with n bytes from a place on at its front, where there are as many and it has room for them
unfoldable pub front_of : ℕ → ℕ → List ℕ → List ℕ → List ℕ
front_of n at s to = cond (leb (at + n) (length s) && leb n (length to)) (patched to 0 (take n (drop at s))) to

-- ---- a record in which a field is set

-- the first where a test holds, else the second
abbrev pub choose : Bool → Record → Record → Record
choose true a b = a
choose false a b = b

-- bytes put at a place of the body, where they lie within it
unfoldable pub storing : ℕ → List ℕ → Record → Record
storing at bytes r = record { message = r.message; unit = r.unit; number = r.number; body = put_buffer r.body at bytes }

-- a field of a message of the type set to bytes; a record of another type stays as it is
unfoldable pub setting_of : ℕ → ℕ → List ℕ → Record → Record
setting_of message at bytes r = choose (is_of message r) (storing at bytes r) r
