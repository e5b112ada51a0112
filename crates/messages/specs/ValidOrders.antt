-- What documents 01 and 02 ask of an order's record, over the bytes of the record; nothing more is asked. And the records that select any listed bits
-- and leave every optional field blank that may be. Definitions alone. Assumes nothing.
use Rattle.std.specs.Prelude.{◌≡◌, Bool, true, false, cond, ◌&&◌, ◌||◌, List, ◌∷◌, ◌++◌, ℕ, ◌+◌, ◌*◌, ◌-◌, ◌≤◌, ◌<◌, eqb, length, get_or, take, drop}
use Rattle.numbers.specs.Numbers.{number_at}
use Rattle.wire.specs.HeaderLaws.{Bytes}
use Rattle.dictionary.specs.Dictionary.{is_new_order}
use Rattle.block.specs.Slots.{zeros}
use Rattle.block.specs.Places.{selected_at, entry_at}
use Rattle.block.specs.FieldPlaces.{widths_before, AllListed, AllAgree, Unselected}
use Rattle.block.specs.Sizes.{fixed_size, most_bitfields, all_places, layout_size}
use Rattle.orders.specs.Shapes.{of_member, sequenced, unsequenced, count_at, most_of, fixed_good}
use Rattle.order_records.specs.Records.{record_bytes}
use Rattle.messages.specs.OrderPlaces.{count_in, layout_in, set_in_record}

-- the types with bitfields of a direction: of 0, the equities member's, New Order, Cancel Order, Modify Order and Purge Orders; of 1, the venue's, Order
-- Acknowledgment and Order Execution, which are sequenced, and Order Rejected, User Modify Rejected and Cancel Rejected, which are not; of 2, the options
-- member's, the options New Order, Cancel Order, Modify Order and Purge Orders
abbrev pub order_of : ℕ → ℕ → Bool
order_of direction message =
    (eqb direction 0 && (eqb message 0x38 || (eqb message 0x39 || (eqb message 0x3A || eqb message 0x47))))
    || (eqb direction 1 && (eqb message 0x25 || (eqb message 0x2C || (eqb message 0x26 || (eqb message 0x29 || eqb message 0x2B))))
    || (eqb direction 2 && (eqb message 0xB8 || (eqb message 0x39 || (eqb message 0x3A || eqb message 0x47)))))

-- a member's message has unit 0 and any number; a sequenced one of the venue's a unit 1 to 32 and any number; an unsequenced one unit 0 and number 0
pub record UnitFits (message unit number : ℕ) : Type 0 where
  pub of_member_lem : of_member message ≡ true → unit ≡ 0
  pub at_least : sequenced message ≡ true → 1 ≤ unit
  pub at_most : sequenced message ≡ true → unit ≤ 32
  pub no_unit : unsequenced message ≡ true → unit ≡ 0
  pub no_number : unsequenced message ≡ true → number ≡ 0

-- New Order, of either market, requires Symbol (byte 2, bit 1), Capacity (byte 2, bit 64), and Price or OrdType (byte 1, bits 4 and 16); Modify Order OrderQty (byte 1,
-- bit 4), and Price or OrdType (byte 1, bits 8 and 16); Purge Orders MassCancelInst (byte 1, bit 4)
pub record Required (message : ℕ) (set : ℕ → Bool) : Type 0 where
  pub symbol : is_new_order message ≡ true → set 8 ≡ true
  pub capacity : is_new_order message ≡ true → set 14 ≡ true
  pub price_or_type : is_new_order message ≡ true → (set 2 || set 4) ≡ true
  pub quantity : message ≡ 0x3A → set 2 ≡ true
  pub new_price_or_type : message ≡ 0x3A → (set 3 || set 4) ≡ true
  pub instruction : message ≡ 0x47 → set 2 ≡ true

-- 02, request 1, over a layout v: a Modify Order without Price has OrdType (place 16) 1, the market value. In a Purge Orders the characters of
-- MassCancelInst (places 4, 5, 6) need: F the ClearingFirm, S or B the MassCancelID, L the F; and with Symbol MatchingUnit (place 56), if it is
-- selected, is 0
pub record NeedsMet (message : ℕ) (set : ℕ → Bool) (v : List ℕ) : Type 0 where
  pub market-price : message ≡ 0x3A → set 3 ≡ false → get_or v 16 0 ≡ 0x31
  pub firm : message ≡ 0x47 → get_or v 4 0 ≡ 0x46 → set 0 ≡ true
  pub one_answer : message ≡ 0x47 → get_or v 5 0 ≡ 0x53 → set 4 ≡ true
  pub both-answers : message ≡ 0x47 → get_or v 5 0 ≡ 0x42 → set 4 ≡ true
  pub lockout : message ≡ 0x47 → get_or v 6 0 ≡ 0x4C → get_or v 4 0 ≡ 0x46
  pub symbol_alone : message ≡ 0x47 → set 8 ≡ true → set 15 ≡ true → get_or v 56 0 ≡ 0

-- the bytes of a record's fixed part that its message's fixed part does not fill, and the message has between bitfields and fields: in Purge Orders
-- RiskGroupIDCnt, which the record has at 7, and two for each RiskGroupID
unfoldable pub between_in : List ℕ → ℕ
between_in r = cond (eqb (get_or r 0 0) 0x47) (1 + 2 * get_or r 7 0) 0

-- a record r: its type at 0, its unit at 1, its number at 2, its fixed part from 6 on, then its count of bitfields, the bitfields, its full layout
pub record Valid (direction : ℕ) (r : List ℕ) : Type 0 where
  pub type : order_of direction (get_or r 0 0) ≡ true
  pub unit : UnitFits (get_or r 0 0) (get_or r 1 0) (number_at 4 2 r)
  pub fixed : fixed_good (get_or r 0 0) (take fixed_size (drop 6 r)) ≡ true
  pub count : get_or r count_in 0 ≤ most_of (get_or r 0 0)
  pub listed : AllListed (set_in_record r) (entry_at (get_or r 0 0))
  pub required : Required (get_or r 0 0) (set_in_record r)
  pub groups : get_or r 0 0 ≡ 0x47 → get_or r 7 0 ≤ 10
  pub agree : AllAgree (set_in_record r) (entry_at (get_or r 0 0)) (drop layout_in r)
  pub needs : NeedsMet (get_or r 0 0) (set_in_record r) (drop layout_in r)
  pub zero_after_fixed : (i : ℕ) → count_at (get_or r 0 0) + between_in r ≤ i + 4 → i < count_in → get_or r i 0 ≡ 0
  pub zero_after_bits : (i : ℕ) → count_in + 1 + get_or r count_in 0 ≤ i → i < layout_in → get_or r i 0 ≡ 0
  pub zero_elsewhere_lem : (i : ℕ) → i < layout_size → Unselected (set_in_record r) (entry_at (get_or r 0 0)) i → get_or r (layout_in + i) 0 ≡ 0

-- the bytes of its message: the count's place, 1, the count, what stands between, and the widths of all set bits
abbrev pub message_size : List ℕ → ℕ
message_size r = count_at (get_or r 0 0) + 1 + get_or r count_in 0 + between_in r + widths_before (set_in_record r) (entry_at (get_or r 0 0)) all_places

-- ---- any choice of bits

-- what a fixed part holds between: in Purge Orders RiskGroupIDCnt at 1, and two bytes for each RiskGroupID
unfoldable pub between_of : ℕ → List ℕ → ℕ
between_of message fixed = cond (eqb message 0x47) (1 + 2 * get_or fixed 1 0) 0

-- a fixed part that is good, in Purge Orders with any RiskGroupIDs, at most 10, and zeros after it
pub record GoodFixed (message : ℕ) (fixed : List ℕ) : Type 0 where
  pub whole : length fixed ≡ fixed_size
  pub bytes : Bytes fixed
  pub good : fixed_good message fixed ≡ true
  pub groups : message ≡ 0x47 → get_or fixed 1 0 ≤ 10
  pub ends : (i : ℕ) → count_at message + between_of message fixed ≤ i + 10 → get_or fixed i 0 ≡ 0

-- bitfields, `count` of them with zeros after them, that set listed bits alone, the required ones among them
pub record GoodBits (message count : ℕ) (bits : List ℕ) : Type 0 where
  pub whole : length bits ≡ most_bitfields
  pub bytes : Bytes bits
  pub few : count ≤ most_of message
  pub ends : (i : ℕ) → count ≤ i → get_or bits i 0 ≡ 0
  pub listed : AllListed (selected_at count bits) (entry_at message)
  pub required : Required message (selected_at count bits)

-- the layout of such a choice: every optional field, selected or not, is blank or zero, but OrdType of a Modify Order, where it is selected, is 1, the
-- market value, MassCancelInst of a Purge Orders is A, and MaturityDate of an options New Order, where it is selected, is the first day, 19700101
abbrev pub market_type : List ℕ
market_type = zeros 16 ++ (0x31 ∷ zeros (layout_size - 17))

abbrev pub cancel_all : List ℕ
cancel_all = zeros 4 ++ (0x41 ∷ zeros (layout_size - 5))

abbrev pub first_day : List ℕ
first_day = zeros 56 ++ (0x85 ∷ 0x99 ∷ 0x2C ∷ 0x01 ∷ zeros (layout_size - 60))

unfoldable pub chosen_fields : ℕ → ℕ → List ℕ → List ℕ
chosen_fields message count bits =
    cond (eqb message 0x3A && selected_at count bits 4) market_type
    (cond (eqb message 0x47) cancel_all
    (cond (eqb message 0xB8 && selected_at count bits 24) first_day
    (zeros layout_size)))

-- the record of such a choice
unfoldable pub chosen_record : ℕ → ℕ → ℕ → List ℕ → ℕ → List ℕ → List ℕ
chosen_record message unit number fixed count bits =
    record_bytes (record { message = message; unit = unit; number = number; fixed = fixed; count = count; bits = bits; slots = chosen_fields message count bits })

-- a fixed part of each type: the identifier A, in Modify Order twice, in Purge Orders none, and in New Order of either market the side 1 and the quantity 1; all else zero
abbrev pub sample_fixed : ℕ → List ℕ
sample_fixed message =
    cond (is_new_order message) (65 ∷ zeros 19 ++ (49 ∷ 1 ∷ zeros (fixed_size - 22)))
    (cond (eqb message 0x39) (65 ∷ zeros (fixed_size - 1))
    (cond (eqb message 0x3A) (65 ∷ zeros 19 ++ (65 ∷ zeros (fixed_size - 21)))
    (cond (eqb message 0x47) (zeros fixed_size)
    (zeros 8 ++ (65 ∷ zeros (fixed_size - 9))))))

-- all listed bits of each type at once
abbrev pub all_bits : ℕ → List ℕ
all_bits message =
    cond (eqb message 0x38) (255 ∷ 195 ∷ 193 ∷ 0 ∷ 0 ∷ 51 ∷ 0 ∷ 0 ∷ 0 ∷ 2 ∷ zeros (most_bitfields - 10))
    (cond (eqb message 0x39) (1 ∷ zeros (most_bitfields - 1))
    (cond (eqb message 0x25) (125 ∷ 67 ∷ 87 ∷ 0 ∷ 142 ∷ zeros (most_bitfields - 5))
    (cond (eqb message 0x2C) (125 ∷ 67 ∷ 87 ∷ zeros (most_bitfields - 3))
    (cond (eqb message 0x26) (127 ∷ 67 ∷ 255 ∷ 0 ∷ 0 ∷ 25 ∷ 0 ∷ 126 ∷ zeros (most_bitfields - 8))
    (cond (eqb message 0x2B) (127 ∷ 67 ∷ 0 ∷ 0 ∷ 0 ∷ 0 ∷ 0 ∷ 6 ∷ zeros (most_bitfields - 8))
    (cond (eqb message 0x3A) (253 ∷ 131 ∷ zeros (most_bitfields - 2))
    (cond (eqb message 0x47) (21 ∷ 131 ∷ zeros (most_bitfields - 2))
    (cond (eqb message 0xB8) (255 ∷ 193 ∷ 1 ∷ 23 ∷ zeros (most_bitfields - 4))
    (zeros most_bitfields)))))))))
