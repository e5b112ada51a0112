-- The stages of the writer, as its functions have them. Definitions alone. Assumes nothing.
use Rattle.std.specs.Prelude.{ℕ, ◌+◌, ◌-◌, Bool, cond, not, ◌&&◌, ◌||◌, List, ◌∷◌, ◌++◌, ltb, eqb, take, drop}
use Rattle.refusals.specs.Names.{unknown_type, bad_unit, too_many_bitfields, unlisted_bit, not_selected, bad_value, not_zero}
use Rattle.refusals.specs.Told.{told}
use Rattle.kinds.specs.Kinds.{all_nul}
use Rattle.block.specs.Slots.{gathered}
use Rattle.block.specs.Places.{slots_of, has_required}
use Rattle.block_write.specs.declared.Seen.{Seen}
use Rattle.orders.specs.declared.Record.{Record}
use Rattle.orders.specs.Shapes.{of_member, of_venue, count_at, most_of, unit_good}
use Rattle.orders.specs.FixedFields.{fixed_wrong}
use Rattle.orders.specs.Middle.{middle_size, middle_good}
use Rattle.orders.specs.Late.{late_refusal}

-- 4, 5, 7
unfoldable pub top_refusal : ℕ → ℕ → ℕ → ℕ → ℕ
top_refusal message unit number count =
    cond (not (of_member message || of_venue message)) unknown_type
    (cond (not (unit_good message unit number)) bad_unit
    (cond (ltb (most_of message) count) (told too_many_bitfields (count_at message))
    0))

-- 10 by what is found in the fixed part, in the middle, which `held` begins with, and in the selected fields
unfoldable pub value_refusal : ℕ → ℕ → List ℕ → List ℕ → List ℕ → ℕ → ℕ
value_refusal message count fixed bits held wrong =
    cond (not (eqb (fixed_wrong message fixed) 0)) (told bad_value (fixed_wrong message fixed))
    (cond (not (middle_good message count bits held)) (told bad_value (count_at message + count + 1))
    (cond (not (eqb wrong 0)) (told bad_value (count_at message + count + middle_size message count bits held + wrong))
    0))

-- the unused places are zero, where `rest` is what is left of the layout without the selected fields
unfoldable pub unused_zero : ℕ → ℕ → List ℕ → List ℕ → List ℕ → Bool
unused_zero message count fixed bits rest =
    all_nul (drop (middle_size message count bits (drop (count_at message - 10) fixed)) (drop (count_at message - 10) fixed))
    && (all_nul (drop count bits) && all_nul rest)

-- the late ones and 12
unfoldable pub end_refusal : ℕ → ℕ → List ℕ → List ℕ → List ℕ → List ℕ → ℕ
end_refusal message count fixed bits slots rest =
    cond (not (eqb (late_refusal message count bits slots) 0)) (late_refusal message count bits slots)
    (cond (not (unused_zero message count fixed bits rest)) not_zero
    0)

-- 8, 9, 10, the late ones, 12 by what was seen of the selected fields, the layout's fields and what is left of the layout without the selected ones
unfoldable pub seen_refusal : ℕ → ℕ → List ℕ → List ℕ → List ℕ → List ℕ → Seen → ℕ
seen_refusal message count fixed bits slots rest s =
    cond (not (eqb s.bad 0)) (told unlisted_bit (count_at message + s.bad))
    (cond (not (has_required message count bits)) (told not_selected (count_at message + count))
    (cond (eqb (value_refusal message count fixed bits (drop (count_at message - 10) fixed) s.wrong) 0)
    (end_refusal message count fixed bits slots rest)
    (value_refusal message count fixed bits (drop (count_at message - 10) fixed) s.wrong)))

-- the middle, which `held` begins with, and the selected fields
unfoldable pub after_bytes : ℕ → ℕ → List ℕ → List ℕ → List ℕ → List ℕ
after_bytes message count bits held slots = take (middle_size message count bits held) held ++ gathered (slots_of message count bits) slots

-- the bitfields, and these
unfoldable pub field_bytes : ℕ → ℕ → List ℕ → List ℕ → List ℕ → List ℕ
field_bytes message count bits held slots = take count bits ++ after_bytes message count bits held slots

-- the fixed part, the count, and these: all that follows the header
unfoldable pub rest_bytes : ℕ → ℕ → List ℕ → List ℕ → List ℕ → List ℕ
rest_bytes message count fixed bits slots = take (count_at message - 10) fixed ++ (count ∷ field_bytes message count bits (drop (count_at message - 10) fixed) slots)

-- the record of its parts
abbrev pub record_from : ℕ → ℕ → ℕ → List ℕ → ℕ → List ℕ → List ℕ → Record
record_from message unit number fixed count bits slots =
    record { message = message; unit = unit; number = number; fixed = fixed; count = count; bits = bits; slots = slots }
