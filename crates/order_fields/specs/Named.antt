-- A record's fields, each by its place: what is read there, and the record in which it is set. Definitions alone. Assumes nothing.
use Rattle.std.specs.Prelude.{ℕ, ◌+◌, ◌-◌, ◌*◌, ◌^◌, Bool, true, false, cond, ◌&&◌, List, leb, ltb, eqb, length, get_or, set, Option, None, Some, option_map, unwrap_or, ℤ}
use Rattle.numbers.specs.Numbers.{number_at, bytes_of, patched}
use Rattle.numbers.specs.Prices.{price_at}
use Rattle.numbers.specs.Values.{text_at}
use Rattle.dictionary.specs.declared.Entry.{Entry}
use Rattle.dictionary.specs.declared.Entry.TheVariants.{Refused, Field}
use Rattle.dictionary.specs.Dictionary.{entry_of}
use Rattle.block.specs.Places.{bit_set}
use Rattle.orders.specs.declared.Record.{Record}

-- ---- where a field stands: at a place, or at none

-- the place of an entry's field in the full layout, where it has this width
abbrev pub place_in : ℕ → Entry → Option ℕ
place_in width Refused = None
place_in width (Field w k p) = cond (eqb w width) (Some p) None

-- whether a record is of the type and its bitfields select the bit: its byte, from 1, is among the first `count`, and its bit, from 0,
-- is set there
unfoldable pub selected_of : ℕ → ℕ → ℕ → Record → Bool
selected_of message byte bit r = eqb r.message message && (leb byte r.count && bit_set (get_or r.bits (byte - 1) 0) bit)

-- an optional field: by its bit in a message of the type, and its width
unfoldable pub optional_of : ℕ → ℕ → ℕ → ℕ → Record → Option ℕ
optional_of message byte bit width r = cond (selected_of message byte bit r) (place_in width (entry_of message byte bit)) None

-- a field of the fixed part: always there, in a record of the type
unfoldable pub fixed_of : ℕ → ℕ → Record → Option ℕ
fixed_of message at r = cond (eqb r.message message) (Some at) None

-- ---- what is read there: nothing where the field is not selected

-- a value of any kind, by what a place holds
abbrev pub value_in : {A : Type 0} → (ℕ → List ℕ → A) → Option ℕ → List ℕ → Option A
value_in held f s = option_map (λ at. held at s) f

-- a number of so many bytes
abbrev pub number_in : ℕ → Option ℕ → List ℕ → Option ℕ
number_in width = value_in (number_at width)

-- a price
abbrev pub price_in : Option ℕ → List ℕ → Option ℤ
price_in = value_in price_at

-- a text of so many bytes
abbrev pub text_in : ℕ → Option ℕ → List ℕ → Option (List ℕ)
text_in width = value_in (text_at width)

-- ---- the optional fields, and those of the fixed part

-- an optional field, by its message, bitfield byte and bit
abbrev pub number_of : ℕ → ℕ → ℕ → ℕ → Record → Option ℕ
number_of width message byte bit r = number_in width (optional_of message byte bit width r) r.slots

abbrev pub price_of : ℕ → ℕ → ℕ → Record → Option ℤ
price_of message byte bit r = price_in (optional_of message byte bit 8 r) r.slots

abbrev pub text_of : ℕ → ℕ → ℕ → ℕ → Record → Option (List ℕ)
text_of width message byte bit r = text_in width (optional_of message byte bit width r) r.slots

-- a field of the fixed part, by its message and its place there
abbrev pub number_fixed : ℕ → ℕ → ℕ → Record → Option ℕ
number_fixed width message at r = number_in width (fixed_of message at r) r.fixed

abbrev pub price_fixed : ℕ → ℕ → Record → Option ℤ
price_fixed message at r = price_in (fixed_of message at r) r.fixed

abbrev pub text_fixed : ℕ → ℕ → ℕ → Record → Option (List ℕ)
text_fixed width message at r = text_in width (fixed_of message at r) r.fixed

-- 000, Purge Orders: RiskGroupIDCnt, 0 to 10, and as many RiskGroupIDs of two bytes. A record keeps them in its fixed part, after the reserved byte:
-- how many, none in a record of another type
abbrev pub risk_group_count : Record → ℕ
risk_group_count r = unwrap_or (number_fixed 1 0x47 1 r) 0

-- whether there is an i-th, counted from 0
abbrev pub has_risk_group : ℕ → Record → Bool
has_risk_group i r = ltb i 10 && ltb i (risk_group_count r)

-- and the i-th
unfoldable pub risk_group_of : ℕ → Record → Option ℕ
risk_group_of i r = cond (has_risk_group i r) (number_fixed 2 0x47 (2 + 2 * i) r) None

-- ---- a record in which a field is set

-- the first where a test holds, else the second
abbrev pub choose : Bool → Record → Record → Record
choose true a b = a
choose false a b = b

-- a byte with a bit set
unfoldable pub with_bit : ℕ → ℕ → ℕ
with_bit x bit = cond (bit_set x bit) x (x + 2 ^ bit)

-- the larger of two
abbrev pub larger : ℕ → ℕ → ℕ
larger a b = cond (leb b a) a b

-- the bit set in its bitfield byte, and the count raised to that byte where it was less
unfoldable pub selecting : ℕ → ℕ → Record → Record
selecting byte bit r = record {
  message = r.message;
  unit = r.unit;
  number = r.number;
  fixed = r.fixed;
  count = larger r.count byte;
  bits = set r.bits (byte - 1) (with_bit (get_or r.bits (byte - 1) 0) bit);
  slots = r.slots;
}

-- bytes put into the full layout
unfoldable pub storing : ℕ → List ℕ → Record → Record
storing at bytes r = record {
  message = r.message;
  unit = r.unit;
  number = r.number;
  fixed = r.fixed;
  count = r.count;
  bits = r.bits;
  slots = patched r.slots at bytes;
}

-- bytes put into the fixed part
unfoldable pub fixing : ℕ → List ℕ → Record → Record
fixing at bytes r = record {
  message = r.message;
  unit = r.unit;
  number = r.number;
  fixed = patched r.fixed at bytes;
  count = r.count;
  bits = r.bits;
  slots = r.slots;
}

-- where a listed bit's field of this width stands in a record of the type, selected or not
unfoldable pub settable_of : ℕ → ℕ → ℕ → ℕ → Record → Option ℕ
settable_of message byte bit width r = cond (eqb r.message message) (place_in width (entry_of message byte bit)) None

-- an optional field set to bytes: selected, its slot holding them. A record of another type stays as it is
abbrev pub set_in : Option ℕ → ℕ → ℕ → List ℕ → Record → Record
set_in (Some at) byte bit bytes r = selecting byte bit (storing at bytes r)
set_in None byte bit bytes r = r

-- the same by its message, bitfield byte and bit, where the bytes are as many as the field has
unfoldable pub setting_of : ℕ → ℕ → ℕ → List ℕ → Record → Record
setting_of message byte bit bytes r = set_in (settable_of message byte bit (length bytes) r) byte bit bytes r

-- a field of the fixed part set to bytes. A record of another type stays as it is
unfoldable pub fixing_of : ℕ → ℕ → List ℕ → Record → Record
fixing_of message at bytes r = choose (eqb r.message message) (fixing at bytes r) r

-- the i-th RiskGroupID set, and RiskGroupIDCnt raised to have it where it was less
abbrev pub with_risk_group : ℕ → ℕ → Record → Record
with_risk_group i id r = fixing_of 0x47 1 (bytes_of 1 (larger (risk_group_count r) (i + 1))) (fixing_of 0x47 (2 + 2 * i) (bytes_of 2 id) r)

-- the same where it is one of the ten. Else the record stays as it is, and so does one of another type
unfoldable pub risk_group_setting : ℕ → ℕ → Record → Record
risk_group_setting i id r = choose (ltb i 10) (with_risk_group i id r) r
