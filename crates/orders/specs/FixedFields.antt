-- The fields of a fixed part that have a test, in message order, each with its place in the message. Definitions alone. Assumes nothing.
use Rattle.std.specs.Prelude.{ℕ, cond, ◌&&◌, List, [], ◌∷◌, leb, eqb, take, drop}
use Rattle.refusals.specs.FirstBad.{Tested, tested, first_bad}
use Rattle.kinds.specs.declared.Kind.TheVariants.{Alphanumeric, Text, Identifier}
use Rattle.kinds.specs.Kinds.{agrees_of, agrees_filled_of}
use Rattle.dictionary.specs.Dictionary.{is_new_order}
use Rattle.numbers.specs.Numbers.{number_at}

-- the fixed part f begins at byte 10 of the message.
-- New Order: ClOrdID at 10, Side at 30, OrderQty at 31
abbrev pub new_order_fields : List ℕ → List Tested
new_order_fields f =
    tested 10 (agrees_filled_of Identifier (take 20 f))
    ∷ tested 30 (agrees_filled_of Alphanumeric (take 1 (drop 20 f)))
    ∷ tested 31 (leb 1 (number_at 4 21 f) && leb (number_at 4 21 f) 999999)
    ∷ []

-- Cancel Order: OrigClOrdID at 10
abbrev pub cancel_order_fields : List ℕ → List Tested
cancel_order_fields f = tested 10 (agrees_filled_of Identifier (take 20 f)) ∷ []

-- Modify Order: ClOrdID at 10, OrigClOrdID at 30
abbrev pub modify_order_fields : List ℕ → List Tested
modify_order_fields f =
    tested 10 (agrees_filled_of Identifier (take 20 f))
    ∷ tested 30 (agrees_filled_of Identifier (take 20 (drop 20 f)))
    ∷ []

-- Order Acknowledgment: ClOrdID at 18
abbrev pub acknowledgment_fields : List ℕ → List Tested
acknowledgment_fields f = tested 18 (agrees_filled_of Identifier (take 20 (drop 8 f))) ∷ []

-- Order Execution: ClOrdID at 18, BaseLiquidityIndicator at 62, SubLiquidityIndicator at 63, ContraBroker at 64
abbrev pub execution_fields : List ℕ → List Tested
execution_fields f =
    tested 18 (agrees_filled_of Identifier (take 20 (drop 8 f)))
    ∷ tested 62 (agrees_of Alphanumeric (take 1 (drop 52 f)))
    ∷ tested 63 (agrees_of Alphanumeric (take 1 (drop 53 f)))
    ∷ tested 64 (agrees_of Alphanumeric (take 4 (drop 54 f)))
    ∷ []

-- the rejections: ClOrdID at 18, the reason at 38, Text at 39
abbrev pub rejection_fields : List ℕ → List Tested
rejection_fields f =
    tested 18 (agrees_filled_of Identifier (take 20 (drop 8 f)))
    ∷ tested 38 (agrees_of Text (take 1 (drop 28 f)))
    ∷ tested 39 (agrees_of Text (take 60 (drop 29 f)))
    ∷ []

-- those of a message of the type; Purge Orders has none
unfoldable pub fixed_fields : ℕ → List ℕ → List Tested
fixed_fields message f =
    cond (is_new_order message) (new_order_fields f)
    (cond (eqb message 0x39) (cancel_order_fields f)
    (cond (eqb message 0x25) (acknowledgment_fields f)
    (cond (eqb message 0x2C) (execution_fields f)
    (cond (eqb message 0x3A) (modify_order_fields f)
    (cond (eqb message 0x47) []
    (rejection_fields f))))))

-- 10: the place of the first that is bad; 0 where none is
unfoldable pub fixed_wrong : ℕ → List ℕ → ℕ
fixed_wrong message f = first_bad (fixed_fields message f)
