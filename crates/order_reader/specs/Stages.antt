-- The stages of the reader, as its functions have them. Definitions alone. Assumes nothing.
use Rattle.std.specs.Prelude.{ℕ, ◌+◌, ◌-◌, Bool, cond, not, List, ◌∷◌, ◌++◌, leb, ltb, eqb, length, get_or, take, drop}
use Rattle.numbers.specs.Numbers.{bytes_of, patched}
use Rattle.refusals.specs.Names.{bad_unit, wrong_total, too_many_bitfields, unlisted_bit, not_selected, bad_value}
use Rattle.refusals.specs.Told.{told}
use Rattle.wire.specs.Header.{unit_of, number_of, total_of}
use Rattle.block.specs.Places.{selected_at, has_required}
use Rattle.block_judge.specs.declared.Judged.{Judged}
use Rattle.orders.specs.Shapes.{count_at, unit_good}
use Rattle.orders.specs.FixedFields.{fixed_wrong}
use Rattle.orders.specs.Middle.{middle_size, middle_good}
use Rattle.block.specs.Slots.{zeros}
use Rattle.orders.specs.Orders.{layout_of, read_refusal, record_of}
use Rattle.order_records.specs.Records.{record_bytes}
use Rattle.block.specs.Sizes.{fixed_end, most_bitfields}

-- 6 if the message ends before its count byte is whole; 7; 6 if the bitfields do not fit, where the count byte stands at `at` and says at most `most`
unfoldable pub count_refusal : ℕ → ℕ → List ℕ → ℕ
count_refusal at most m =
    cond (leb (length m) at) (told wrong_total (total_of m))
    (cond (ltb most (get_or m at 0)) (told too_many_bitfields at)
    (cond (ltb (length m) (at + 1 + get_or m at 0)) (told wrong_total (total_of m))
    0))

-- 5, and then these, of a message of a type
unfoldable pub type_head : ℕ → ℕ → ℕ → List ℕ → ℕ
type_head message at most m = cond (not (unit_good message (unit_of m) (number_of m))) bad_unit (count_refusal at most m)

-- 10, by the place of the first bad field of the fixed part, whether the middle of `size` bytes, which follows the byte at `last`, is good, and the first
-- bad optional field, counted from 1 after the middle
unfoldable pub value_refusal : ℕ → ℕ → Bool → ℕ → ℕ → ℕ
value_refusal last fixed good size wrong =
    cond (not (eqb fixed 0)) (told bad_value fixed)
    (cond (not good) (told bad_value (last + 1))
    (cond (not (eqb wrong 0)) (told bad_value (last + size + wrong))
    0))

-- 8, 9, 6, 10 by what was taken of the optional bytes, which follow a middle of `size` bytes in `rest`
unfoldable pub judged_of : ℕ → ℕ → ℕ → List ℕ → List ℕ → Judged → ℕ → List ℕ → ℕ
judged_of total message count bits fixed t size rest =
    cond (not (eqb t.bad 0)) (told unlisted_bit (count_at message + t.bad))
    (cond (not (has_required message count bits)) (told not_selected (count_at message + count))
    (cond (not (eqb (size + t.at) (length rest))) (told wrong_total total)
    (value_refusal (count_at message + count) (fixed_wrong message fixed) (middle_good message count bits rest) size t.wrong)))

-- the width of ClearingFirm (byte 1, bit 1) of Modify Order and of Purge Orders where it is selected
abbrev pub firm_width : ℕ → List ℕ → ℕ
firm_width count bits = cond (selected_at count bits 0) 4 0

-- the fixed part and the middle, with zeros after them
unfoldable pub kept_bytes : List ℕ → ℕ → ℕ → List ℕ → List ℕ → List ℕ
kept_bytes m message count bits rest =
    take (count_at message - 10) (drop 10 m)
    ++ (take (middle_size message count bits rest) rest ++ zeros (fixed_end - count_at message - middle_size message count bits rest))

-- the bytes of a message's record up to its layout
unfoldable pub front_bytes : List ℕ → ℕ → ℕ → List ℕ → List ℕ → List ℕ
front_bytes m message count bits rest =
    (message ∷ unit_of m ∷ bytes_of 4 (number_of m))
    ++ (kept_bytes m message count bits rest
    ++ (count ∷ (bits ++ zeros (most_bitfields - length bits))))

-- the bytes of a message's record: its type, unit and number, its fixed part and middle, its count and bitfields, each as it stands in the message with
-- zeros after it, and the layout of its optional fields
unfoldable pub there_bytes : List ℕ → ℕ → ℕ → List ℕ → List ℕ → List ℕ
there_bytes m message count bits rest =
    record_bytes
    (record {
      message = message;
      unit = unit_of m;
      number = number_of m;
      fixed = kept_bytes m message count bits rest;
      count = count;
      bits = bits ++ zeros (most_bitfields - length bits);
      slots = layout_of message count bits (drop (middle_size message count bits rest) rest);
    })

-- the record's buffer after a message: the record's bytes at its front, or as it was where the message is refused
unfoldable pub read_record : List ℕ → List ℕ → List ℕ
read_record m buffer = cond (eqb (read_refusal m) 0) (patched buffer 0 (record_bytes (record_of m))) buffer
