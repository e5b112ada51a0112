-- The sizes of an order's record and of its parts, each once. Assumes nothing.
use Rattle.std.specs.Prelude.{◌≡◌, refl, ℕ, ◌+◌, ◌*◌}

-- the fixed part: as many bytes as the rejections have between their header and their count byte
abbrev pub fixed_size : ℕ
fixed_size = 90

-- where the longest fixed part ends in a message: the header, and that part
abbrev pub fixed_end : ℕ
fixed_end = 100

-- the bitfields: as many as the tables of the rejections print
abbrev pub most_bitfields : ℕ
most_bitfields = 19

-- the bits of all bitfields
abbrev pub all_places : ℕ
all_places = 152

-- the full layout: as many bytes as the listed fields of Order Rejected, which lists most, take
abbrev pub layout_size : ℕ
layout_size = 175

-- the record: type, unit, number, fixed part, count, bitfields, layout; and where the last three of these begin
abbrev pub count_place : ℕ
count_place = 96

abbrev pub bits_place : ℕ
bits_place = 97

abbrev pub slots_place : ℕ
slots_place = 116

abbrev pub record_size : ℕ
record_size = 291

-- they agree with each other
pub sizes_agree : (fixed_end ≡ 10 + fixed_size) × (all_places ≡ 8 * most_bitfields) × (count_place ≡ 6 + fixed_size) × (bits_place ≡ count_place + 1) × (slots_place ≡ bits_place + most_bitfields) × (record_size ≡ slots_place + layout_size)
sizes_agree = (refl, refl, refl, refl, refl, refl)
