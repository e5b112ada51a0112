-- Where the parts of an order stand: in its message, and in its record. Definitions alone. Assumes nothing.
use Rattle.std.specs.Prelude.{◌≡◌, Bool, true, cond, ◌&&◌, ◌||◌, List, ℕ, ◌+◌, ◌*◌, ◌/◌, ◌%◌, ◌≤◌, ltb, eqb, get_or, take, drop}
use Rattle.wire.specs.Header.{total_of}
use Rattle.block.specs.Places.{bit_set, entry_at}
use Rattle.block.specs.FieldPlaces.{widths_before}
use Rattle.block.specs.Sizes.{fixed_end, most_bitfields, layout_size, count_place, slots_place, record_size}
use Rattle.orders.specs.Shapes.{count_at}

-- the types that have bitfields: New Order, the options New Order, Cancel Order, Modify Order, Purge Orders, Order Acknowledgment, Order Execution, Order Rejected, User Modify Rejected, Cancel Rejected
abbrev pub is_order : ℕ → Bool
is_order message =
    eqb message 0x38 || (eqb message 0xB8 || (eqb message 0x39 || (eqb message 0x3A || (eqb message 0x47 || (eqb message 0x25 || (eqb message 0x2C || (eqb message 0x26 || (eqb message 0x29 || eqb message 0x2B))))))))

-- where a record has its count of bitfields, the bitfields after it; and where its full layout begins
abbrev pub count_in : ℕ
count_in = count_place

abbrev pub layout_in : ℕ
layout_in = slots_place

-- the most bytes of a message with bitfields: the longest fixed part, its count, and all that a record has of bitfields and fields
abbrev pub order_most : ℕ
order_most = fixed_end + 1 + most_bitfields + layout_size

-- whether the bit of place k, which is bit k % 8 of bitfield byte k / 8 + 1, is set in bytes that have the count of bitfields at `at` and the
-- bitfields after it; only as many bytes as the count tells are bitfields
unfoldable pub set_in : ℕ → List ℕ → ℕ → Bool
set_in at s k = ltb (k / 8) (get_or s at 0) && bit_set (get_or s (at + 1 + k / 8) 0) (k % 8)

-- the bits that are set in a message, of which the type that its record has is given, and in a record
abbrev pub set_in_message : ℕ → List ℕ → ℕ → Bool
set_in_message type m = set_in (count_at type) m

abbrev pub set_in_record : List ℕ → ℕ → Bool
set_in_record r = set_in count_in r

-- where the bitfields of a message end
abbrev pub bits_end : ℕ → List ℕ → ℕ
bits_end type m = count_at type + 1 + get_or m (count_at type) 0

-- 000, Purge Orders: there RiskGroupIDCnt stands, and after it so many RiskGroupIDs of two bytes; the other messages have nothing between their
-- bitfields and their fields
unfoldable pub between : ℕ → List ℕ → ℕ
between type m = cond (eqb type 0x47) (1 + 2 * get_or m (bits_end type m) 0) 0

-- 01: an optional field starts at the end of the bitfields plus the summed widths of all earlier set bits. So the field of place k begins at the
-- count's place, 1, the count, what stands between, and those widths
unfoldable pub field_at : ℕ → List ℕ → ℕ → ℕ
field_at type m k = bits_end type m + between type m + widths_before (set_in_message type m) (entry_at type) k

-- an optional field of place k, which has w bytes, in a message m and, at place p of the layout, in a record r: it is selected in both, it lies
-- within the message and within the record, and its bytes are the same
pub record Stands (type : ℕ) (m r : List ℕ) (k w p : ℕ) : Type 0 where
  pub in_message : set_in_message type m k ≡ true
  pub in_record : set_in_record r k ≡ true
  pub within_message : field_at type m k + w ≤ total_of m
  pub within_record : layout_in + p + w ≤ record_size
  pub same_bytes : take w (drop (field_at type m k) m) ≡ take w (drop (layout_in + p) r)
