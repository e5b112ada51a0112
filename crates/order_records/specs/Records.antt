-- A record as `record_size` bytes: type, unit, number, the fixed part, the count, the bitfields, the full layout.
-- Definitions alone. Assumes nothing.
use Rattle.std.specs.Prelude.{ℕ, cond, List, ◌∷◌, ◌++◌, ltb, length, get_or, take, drop}
use Rattle.refusals.specs.Names.{no_room}
use Rattle.numbers.specs.Numbers.{number_at, bytes_of, patched}
use Rattle.orders.specs.declared.Record.{Record}
use Rattle.orders.specs.Orders.{blank}
use Rattle.order_records.specs.Loaded.{Loaded}
use Rattle.block.specs.Sizes.{fixed_size, layout_size, record_size, most_bitfields, count_place, bits_place, slots_place}

-- a record's bytes
unfoldable pub record_bytes : Record → List ℕ
record_bytes r = (r.message ∷ r.unit ∷ bytes_of 4 r.number) ++ (r.fixed ++ (r.count ∷ (r.bits ++ r.slots)))

-- the record that the first `record_size` bytes are
unfoldable pub record_at : List ℕ → Record
record_at s =
    record {
      message = get_or s 0 0;
      unit = get_or s 1 0;
      number = number_at 4 2 s;
      fixed = take fixed_size (drop 6 s);
      count = get_or s count_place 0;
      bits = take most_bitfields (drop bits_place s);
      slots = take layout_size (drop slots_place s);
    }

-- 01, Numbers of refusal: 13 where there are under `record_size` bytes, in a buffer that a record is stored in as in bytes that one is loaded from
unfoldable pub store_refusal : ℕ → ℕ
store_refusal room = cond (ltb room record_size) no_room 0

-- a record from any bytes: that of the first `record_size`, and the blank one where there are fewer
unfoldable pub load_of : List ℕ → Loaded
load_of s = record { refusal = store_refusal (length s); order = cond (ltb (length s) record_size) blank (record_at s) }

-- the buffer that a record is stored in: as it was where it has under `record_size` bytes, and else with the record's bytes in its front
unfoldable pub store_buffer : Record → List ℕ → List ℕ
store_buffer r out = cond (ltb (length out) record_size) out (patched out 0 (record_bytes r))
