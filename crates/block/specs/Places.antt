-- The slots of a message with its bitfields. Definitions alone. Assumes nothing.
use Rattle.std.specs.Prelude.{ℕ, zero, suc, ◌+◌, ◌/◌, ◌%◌, ◌^◌, Bool, true, cond, ◌&&◌, ◌||◌, List, [], ◌∷◌, ltb, eqb, get_or}
use Rattle.dictionary.specs.declared.Entry.{Entry}
use Rattle.dictionary.specs.Dictionary.{entry_of, is_new_order}
use Rattle.block.specs.Slots.{Slot, slot}
use Rattle.block.specs.Sizes.{all_places}

-- whether a bit of a byte, counted from 0, is set
abbrev pub bit_set : ℕ → ℕ → Bool
bit_set x bit = eqb (x / 2 ^ bit % 2) 1

-- 01: fields follow the bitfields, first byte first, lowest bit first. So place k is bit k % 8 of bitfield byte k / 8 + 1;
-- only the first `count` bytes are bitfields
unfoldable pub selected_at : ℕ → List ℕ → ℕ → Bool
selected_at count bits k = ltb (k / 8) count && bit_set (get_or bits (k / 8) 0) (k % 8)

-- the bitfield byte, the first being 1, of place k
abbrev pub byte_at : ℕ → ℕ
byte_at k = k / 8 + 1

-- what the dictionary has for place k
unfoldable pub entry_at : ℕ → ℕ → Entry
entry_at message k = entry_of message (byte_at k) (k % 8)

-- n slots from place k on
unfoldable pub slots_from : (ℕ → Bool) → (ℕ → Entry) → ℕ → ℕ → List Slot
slots_from selected entry zero k = []
slots_from selected entry (suc n) k = slot (selected k) (entry k) ∷ slots_from selected entry n (suc k)

-- all slots of a message with its bitfields
abbrev pub slots_of : ℕ → ℕ → List ℕ → List Slot
slots_of message count bits = slots_from (selected_at count bits) (entry_at message) all_places 0

-- 9: the fields that are required whatever the others hold. New Order, in either market, requires Symbol (byte 2, bit 1), Capacity (byte 2, bit 64),
-- and Price or OrdType (byte 1, bits 4 and 16)
abbrev pub new_order_has : ℕ → List ℕ → Bool
new_order_has count bits = selected_at count bits 8 && (selected_at count bits 14 && (selected_at count bits 2 || selected_at count bits 4))

-- 02, request 1: Modify Order requires OrderQty (byte 1, bit 4) and Price (byte 1, bit 8); where OrdType (byte 1, bit 16) is selected, its value
-- says whether Price is needed
abbrev pub modify_order_has : ℕ → List ℕ → Bool
modify_order_has count bits = selected_at count bits 2 && (selected_at count bits 3 || selected_at count bits 4)

-- 02, request 1: Purge Orders requires MassCancelInst (byte 1, bit 4)
abbrev pub purge_orders_has : ℕ → List ℕ → Bool
purge_orders_has count bits = selected_at count bits 2

-- the other messages require none
unfoldable pub has_required : ℕ → ℕ → List ℕ → Bool
has_required message count bits =
    cond (is_new_order message) (new_order_has count bits)
    (cond (eqb message 0x3A) (modify_order_has count bits)
    (cond (eqb message 0x47) (purge_orders_has count bits)
    true))
