-- A second count of the bit dictionary, so that code and table cannot be changed together unseen: for each message the widths and the
-- bits of each bitfield byte, its length in all, its columns of widths and kinds, and that its lines stand in order of byte and bit.
-- The figures are counted from document 01's lists, Order Execution's narrowed by 000's Table 70, and of the rejections from 000's Tables 64, 67 and 69,
-- of Modify Order and Purge Orders from its Tables 60 and 61, of the options New Order from 002's table and 02's request 4. All is computed. Assumes nothing.
use Rattle.std.specs.Prelude.{◌≡◌, refl, Bool, true, cond, ◌&&◌, List, [], ◌∷◌, map, ℕ, ◌+◌, ◌*◌, ◌^◌, eqb, ltb}
use Rattle.kinds.specs.declared.Kind.{Kind}
use Rattle.kinds.specs.declared.Kind.TheVariants.{Letters, Alphanumeric, Text, Binary, Price, FilledText, Day}
use Rattle.dictionary.specs.Dictionary.{Line, line, new_order, options_order, cancel_order, modify_order, purge_orders, acknowledgments, executions, rejections, cancel_rejections, list_of, index_of}

-- the widths of a bitfield byte's lines, summed
abbrev pub widths_in : ℕ → List Line → ℕ
widths_in byte [] = 0
widths_in byte (line b t w k ∷ ls) = cond (eqb byte b) w 0 + widths_in byte ls

-- the bits (1, 2, 4 to 128) of a bitfield byte's lines, summed
abbrev pub bits_in : ℕ → List Line → ℕ
bits_in byte [] = 0
bits_in byte (line b t w k ∷ ls) = cond (eqb byte b) t 0 + bits_in byte ls

-- the widths of all lines, summed
abbrev pub layout_length : List Line → ℕ
layout_length [] = 0
layout_length (line b t w k ∷ ls) = w + layout_length ls

-- a line's width, and its kind
abbrev pub line_width : Line → ℕ
line_width (line b t w k) = w

abbrev pub line_kind : Line → Kind
line_kind (line b t w k) = k

-- each line's bit is one of 1, 2, 4 to 128, and comes after the line before it, which stood at a place of 256 for a byte and 1 for a bit
abbrev pub in_order : ℕ → List Line → Bool
in_order last [] = true
in_order last (line b t w k ∷ ls) = eqb t (2 ^ index_of t) && ltb last (256 * b + t) && in_order (256 * b + t) ls

-- the bitfield bytes that a message can have
abbrev bytes : List ℕ
bytes = 1 ∷ 2 ∷ 3 ∷ 4 ∷ 5 ∷ 6 ∷ 7 ∷ 8 ∷ 9 ∷ 10 ∷ 11 ∷ 12 ∷ 13 ∷ 14 ∷ 15 ∷ 16 ∷ 17 ∷ 18 ∷ 19 ∷ []

-- New Order
pub new_order_sums : map (λ b. widths_in b new_order) bytes ≡ 27 ∷ 21 ∷ 25 ∷ 0 ∷ 0 ∷ 77 ∷ 0 ∷ 0 ∷ 0 ∷ 4 ∷ 0 ∷ 0 ∷ 0 ∷ 0 ∷ 0 ∷ 0 ∷ 0 ∷ 0 ∷ 0 ∷ []
new_order_sums = refl

pub new_order_masks : map (λ b. bits_in b new_order) bytes ≡ 255 ∷ 195 ∷ 193 ∷ 0 ∷ 0 ∷ 51 ∷ 0 ∷ 0 ∷ 0 ∷ 2 ∷ 0 ∷ 0 ∷ 0 ∷ 0 ∷ 0 ∷ 0 ∷ 0 ∷ 0 ∷ 0 ∷ []
new_order_masks = refl

pub new_order-length : layout_length new_order ≡ 154
new_order-length = refl

pub new_order_widths : map line_width new_order ≡ 4 ∷ 4 ∷ 8 ∷ 1 ∷ 1 ∷ 1 ∷ 4 ∷ 4 ∷ 8 ∷ 8 ∷ 1 ∷ 4 ∷ 16 ∷ 1 ∷ 8 ∷ 4 ∷ 8 ∷ 1 ∷ 64 ∷ 4 ∷ []
new_order_widths = refl

pub new_order_kinds : map line_kind new_order ≡ Letters ∷ Text ∷ Price ∷ Text ∷ Alphanumeric ∷ Alphanumeric ∷ Binary ∷ Binary ∷ Alphanumeric ∷ Alphanumeric ∷ Letters ∷ Text ∷ Text ∷ Letters ∷ Binary ∷ Binary ∷ Price ∷ Text ∷ Text ∷ Letters ∷ []
new_order_kinds = refl

pub new_order-in_order : in_order 0 new_order ≡ true
new_order-in_order = refl

-- The options New Order
pub options_order_sums : map (λ b. widths_in b options_order) bytes ≡ 27 ∷ 13 ∷ 16 ∷ 14 ∷ 0 ∷ 0 ∷ 0 ∷ 0 ∷ 0 ∷ 0 ∷ 0 ∷ 0 ∷ 0 ∷ 0 ∷ 0 ∷ 0 ∷ 0 ∷ 0 ∷ 0 ∷ []
options_order_sums = refl

pub options_order_masks : map (λ b. bits_in b options_order) bytes ≡ 255 ∷ 193 ∷ 1 ∷ 23 ∷ 0 ∷ 0 ∷ 0 ∷ 0 ∷ 0 ∷ 0 ∷ 0 ∷ 0 ∷ 0 ∷ 0 ∷ 0 ∷ 0 ∷ 0 ∷ 0 ∷ 0 ∷ []
options_order_masks = refl

pub options_order-length : layout_length options_order ≡ 70
options_order-length = refl

pub options_order_widths : map line_width options_order ≡ 4 ∷ 4 ∷ 8 ∷ 1 ∷ 1 ∷ 1 ∷ 4 ∷ 4 ∷ 8 ∷ 1 ∷ 4 ∷ 16 ∷ 4 ∷ 8 ∷ 1 ∷ 1 ∷ []
options_order_widths = refl

pub options_order_kinds : map line_kind options_order ≡ Letters ∷ Text ∷ Price ∷ Text ∷ Alphanumeric ∷ Alphanumeric ∷ Binary ∷ Binary ∷ Alphanumeric ∷ Letters ∷ Text ∷ Text ∷ Day ∷ Price ∷ Alphanumeric ∷ Alphanumeric ∷ []
options_order_kinds = refl

pub options_order-in_order : in_order 0 options_order ≡ true
options_order-in_order = refl

-- Cancel Order
pub cancel_order_sums : map (λ b. widths_in b cancel_order) bytes ≡ 4 ∷ 0 ∷ 0 ∷ 0 ∷ 0 ∷ 0 ∷ 0 ∷ 0 ∷ 0 ∷ 0 ∷ 0 ∷ 0 ∷ 0 ∷ 0 ∷ 0 ∷ 0 ∷ 0 ∷ 0 ∷ 0 ∷ []
cancel_order_sums = refl

pub cancel_order_masks : map (λ b. bits_in b cancel_order) bytes ≡ 1 ∷ 0 ∷ 0 ∷ 0 ∷ 0 ∷ 0 ∷ 0 ∷ 0 ∷ 0 ∷ 0 ∷ 0 ∷ 0 ∷ 0 ∷ 0 ∷ 0 ∷ 0 ∷ 0 ∷ 0 ∷ 0 ∷ []
cancel_order_masks = refl

pub cancel_order-length : layout_length cancel_order ≡ 4
cancel_order-length = refl

pub cancel_order_widths : map line_width cancel_order ≡ 4 ∷ []
cancel_order_widths = refl

pub cancel_order_kinds : map line_kind cancel_order ≡ Letters ∷ []
cancel_order_kinds = refl

pub cancel_order-in_order : in_order 0 cancel_order ≡ true
cancel_order-in_order = refl

-- Order Acknowledgment
pub acknowledgment_sums : map (λ b. widths_in b acknowledgments) bytes ≡ 16 ∷ 17 ∷ 32 ∷ 0 ∷ 24 ∷ 0 ∷ 0 ∷ 0 ∷ 0 ∷ 0 ∷ 0 ∷ 0 ∷ 0 ∷ 0 ∷ 0 ∷ 0 ∷ 0 ∷ 0 ∷ 0 ∷ []
acknowledgment_sums = refl

pub acknowledgment_masks : map (λ b. bits_in b acknowledgments) bytes ≡ 125 ∷ 67 ∷ 87 ∷ 0 ∷ 142 ∷ 0 ∷ 0 ∷ 0 ∷ 0 ∷ 0 ∷ 0 ∷ 0 ∷ 0 ∷ 0 ∷ 0 ∷ 0 ∷ 0 ∷ 0 ∷ 0 ∷ []
acknowledgment_masks = refl

pub acknowledgment-length : layout_length acknowledgments ≡ 89
acknowledgment-length = refl

pub acknowledgment_widths : map line_width acknowledgments ≡ 1 ∷ 8 ∷ 1 ∷ 1 ∷ 1 ∷ 4 ∷ 8 ∷ 8 ∷ 1 ∷ 16 ∷ 4 ∷ 4 ∷ 4 ∷ 4 ∷ 4 ∷ 4 ∷ 8 ∷ 8 ∷ []
acknowledgment_widths = refl

pub acknowledgment_kinds : map line_kind acknowledgments ≡ Alphanumeric ∷ Price ∷ Text ∷ Alphanumeric ∷ Alphanumeric ∷ Binary ∷ Alphanumeric ∷ Alphanumeric ∷ Letters ∷ Text ∷ Letters ∷ Text ∷ Binary ∷ Binary ∷ Binary ∷ Binary ∷ Price ∷ Binary ∷ []
acknowledgment_kinds = refl

pub acknowledgment-in_order : in_order 0 acknowledgments ≡ true
acknowledgment-in_order = refl

-- Order Execution
pub execution_sums : map (λ b. widths_in b executions) bytes ≡ 16 ∷ 17 ∷ 32 ∷ 0 ∷ 0 ∷ 0 ∷ 0 ∷ 0 ∷ 0 ∷ 0 ∷ 0 ∷ 0 ∷ 0 ∷ 0 ∷ 0 ∷ 0 ∷ 0 ∷ 0 ∷ 0 ∷ []
execution_sums = refl

pub execution_masks : map (λ b. bits_in b executions) bytes ≡ 125 ∷ 67 ∷ 87 ∷ 0 ∷ 0 ∷ 0 ∷ 0 ∷ 0 ∷ 0 ∷ 0 ∷ 0 ∷ 0 ∷ 0 ∷ 0 ∷ 0 ∷ 0 ∷ 0 ∷ 0 ∷ 0 ∷ []
execution_masks = refl

pub execution_length : layout_length executions ≡ 65
execution_length = refl

pub execution_widths : map line_width executions ≡ 1 ∷ 8 ∷ 1 ∷ 1 ∷ 1 ∷ 4 ∷ 8 ∷ 8 ∷ 1 ∷ 16 ∷ 4 ∷ 4 ∷ 4 ∷ 4 ∷ []
execution_widths = refl

pub execution_kinds : map line_kind executions ≡ Alphanumeric ∷ Price ∷ Text ∷ Alphanumeric ∷ Alphanumeric ∷ Binary ∷ Alphanumeric ∷ Alphanumeric ∷ Letters ∷ Text ∷ Letters ∷ Text ∷ Binary ∷ Binary ∷ []
execution_kinds = refl

pub execution_in_order : in_order 0 executions ≡ true
execution_in_order = refl

-- Order Rejected
pub rejection_sums : map (λ b. widths_in b rejections) bytes ≡ 24 ∷ 17 ∷ 38 ∷ 0 ∷ 0 ∷ 10 ∷ 0 ∷ 86 ∷ 0 ∷ 0 ∷ 0 ∷ 0 ∷ 0 ∷ 0 ∷ 0 ∷ 0 ∷ 0 ∷ 0 ∷ 0 ∷ []
rejection_sums = refl

pub rejection_masks : map (λ b. bits_in b rejections) bytes ≡ 127 ∷ 67 ∷ 255 ∷ 0 ∷ 0 ∷ 25 ∷ 0 ∷ 126 ∷ 0 ∷ 0 ∷ 0 ∷ 0 ∷ 0 ∷ 0 ∷ 0 ∷ 0 ∷ 0 ∷ 0 ∷ 0 ∷ []
rejection_masks = refl

pub rejection-length : layout_length rejections ≡ 175
rejection-length = refl

pub rejection_widths : map line_width rejections ≡ 1 ∷ 8 ∷ 8 ∷ 1 ∷ 1 ∷ 1 ∷ 4 ∷ 8 ∷ 8 ∷ 1 ∷ 16 ∷ 4 ∷ 4 ∷ 1 ∷ 4 ∷ 2 ∷ 4 ∷ 3 ∷ 8 ∷ 1 ∷ 1 ∷ 64 ∷ 8 ∷ 4 ∷ 6 ∷ 3 ∷ 1 ∷ []
rejection_widths = refl

pub rejection_kinds : map line_kind rejections ≡ Alphanumeric ∷ Price ∷ Price ∷ Text ∷ Alphanumeric ∷ Alphanumeric ∷ Binary ∷ Alphanumeric ∷ Alphanumeric ∷ Letters ∷ Text ∷ Letters ∷ Text ∷ Alphanumeric ∷ Binary ∷ Binary ∷ Binary ∷ Alphanumeric ∷ Binary ∷ Alphanumeric ∷ Text ∷ Text ∷ Price ∷ Text ∷ Text ∷ Text ∷ Text ∷ []
rejection_kinds = refl

pub rejection-in_order : in_order 0 rejections ≡ true
rejection-in_order = refl

-- Cancel Rejected
pub cancel_rejection_sums : map (λ b. widths_in b cancel_rejections) bytes ≡ 24 ∷ 17 ∷ 0 ∷ 0 ∷ 0 ∷ 0 ∷ 0 ∷ 72 ∷ 0 ∷ 0 ∷ 0 ∷ 0 ∷ 0 ∷ 0 ∷ 0 ∷ 0 ∷ 0 ∷ 0 ∷ 0 ∷ []
cancel_rejection_sums = refl

pub cancel_rejection_masks : map (λ b. bits_in b cancel_rejections) bytes ≡ 127 ∷ 67 ∷ 0 ∷ 0 ∷ 0 ∷ 0 ∷ 0 ∷ 6 ∷ 0 ∷ 0 ∷ 0 ∷ 0 ∷ 0 ∷ 0 ∷ 0 ∷ 0 ∷ 0 ∷ 0 ∷ 0 ∷ []
cancel_rejection_masks = refl

pub cancel_rejection_length : layout_length cancel_rejections ≡ 113
cancel_rejection_length = refl

pub cancel_rejection_widths : map line_width cancel_rejections ≡ 1 ∷ 8 ∷ 8 ∷ 1 ∷ 1 ∷ 1 ∷ 4 ∷ 8 ∷ 8 ∷ 1 ∷ 64 ∷ 8 ∷ []
cancel_rejection_widths = refl

pub cancel_rejection_kinds : map line_kind cancel_rejections ≡ Alphanumeric ∷ Price ∷ Price ∷ Text ∷ Alphanumeric ∷ Alphanumeric ∷ Binary ∷ Alphanumeric ∷ Alphanumeric ∷ Letters ∷ Text ∷ Price ∷ []
cancel_rejection_kinds = refl

pub cancel_rejection_in_order : in_order 0 cancel_rejections ≡ true
cancel_rejection_in_order = refl

-- Modify Order
pub modify_order_sums : map (λ b. widths_in b modify_order) bytes ≡ 20 ∷ 16 ∷ 0 ∷ 0 ∷ 0 ∷ 0 ∷ 0 ∷ 0 ∷ 0 ∷ 0 ∷ 0 ∷ 0 ∷ 0 ∷ 0 ∷ 0 ∷ 0 ∷ 0 ∷ 0 ∷ 0 ∷ []
modify_order_sums = refl

pub modify_order_masks : map (λ b. bits_in b modify_order) bytes ≡ 253 ∷ 131 ∷ 0 ∷ 0 ∷ 0 ∷ 0 ∷ 0 ∷ 0 ∷ 0 ∷ 0 ∷ 0 ∷ 0 ∷ 0 ∷ 0 ∷ 0 ∷ 0 ∷ 0 ∷ 0 ∷ 0 ∷ []
modify_order_masks = refl

pub modify_order-length : layout_length modify_order ≡ 36
modify_order-length = refl

pub modify_order_widths : map line_width modify_order ≡ 4 ∷ 4 ∷ 8 ∷ 1 ∷ 1 ∷ 1 ∷ 1 ∷ 4 ∷ 8 ∷ 4 ∷ []
modify_order_widths = refl

pub modify_order_kinds : map line_kind modify_order ≡ Letters ∷ Binary ∷ Price ∷ Alphanumeric ∷ Letters ∷ Text ∷ Alphanumeric ∷ Binary ∷ Price ∷ Letters ∷ []
modify_order_kinds = refl

pub modify_order-in_order : in_order 0 modify_order ≡ true
modify_order-in_order = refl

-- Purge Orders
pub purge_orders_sums : map (λ b. widths_in b purge_orders) bytes ≡ 40 ∷ 17 ∷ 0 ∷ 0 ∷ 0 ∷ 0 ∷ 0 ∷ 0 ∷ 0 ∷ 0 ∷ 0 ∷ 0 ∷ 0 ∷ 0 ∷ 0 ∷ 0 ∷ 0 ∷ 0 ∷ 0 ∷ []
purge_orders_sums = refl

pub purge_orders_masks : map (λ b. bits_in b purge_orders) bytes ≡ 21 ∷ 131 ∷ 0 ∷ 0 ∷ 0 ∷ 0 ∷ 0 ∷ 0 ∷ 0 ∷ 0 ∷ 0 ∷ 0 ∷ 0 ∷ 0 ∷ 0 ∷ 0 ∷ 0 ∷ 0 ∷ 0 ∷ []
purge_orders_masks = refl

pub purge_orders-length : layout_length purge_orders ≡ 57
purge_orders-length = refl

pub purge_orders_widths : map line_width purge_orders ≡ 4 ∷ 16 ∷ 20 ∷ 8 ∷ 8 ∷ 1 ∷ []
purge_orders_widths = refl

pub purge_orders_kinds : map line_kind purge_orders ≡ Letters ∷ FilledText ∷ Text ∷ Alphanumeric ∷ Alphanumeric ∷ Binary ∷ []
purge_orders_kinds = refl

pub purge_orders-in_order : in_order 0 purge_orders ≡ true
purge_orders-in_order = refl

-- User Modify Rejected
pub modify_rejection_none : list_of 0x29 ≡ []
modify_rejection_none = refl
