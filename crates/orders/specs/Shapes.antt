-- The messages with bitfields: their fixed parts. Definitions alone. Assumes nothing.
use Rattle.std.specs.Prelude.{ℕ, Bool, true, cond, ◌&&◌, ◌||◌, List, leb, eqb, take, drop}
use Rattle.kinds.specs.declared.Kind.TheVariants.{Alphanumeric, Text, Identifier}
use Rattle.kinds.specs.Kinds.{agrees_of, agrees_filled_of}
use Rattle.numbers.specs.Numbers.{number_at}
use Rattle.dictionary.specs.Dictionary.{is_new_order}

-- New Order of either market, Cancel Order, Modify Order and Purge Orders from the member. The options New Order is B8 here: Markets.antt
abbrev pub of_member : ℕ → Bool
of_member message = is_new_order message || (eqb message 0x39 || (eqb message 0x3A || eqb message 0x47))

-- 000, List of Message Types: Order Acknowledgment and Order Execution from the venue are sequenced
abbrev pub sequenced : ℕ → Bool
sequenced message = eqb message 0x25 || eqb message 0x2C

-- and Order Rejected, User Modify Rejected and Cancel Rejected are not
abbrev pub unsequenced : ℕ → Bool
unsequenced message = eqb message 0x26 || (eqb message 0x29 || eqb message 0x2B)

-- the application messages from the venue
abbrev pub of_venue : ℕ → Bool
of_venue message = sequenced message || unsequenced message

-- where the count of bitfields stands: New Order 35, Cancel Order 30, Order Acknowledgment 47, Order Execution 69, Modify Order 50, Purge Orders 11,
-- the rejections 100
unfoldable pub count_at : ℕ → ℕ
count_at message =
    cond (is_new_order message) 35
    (cond (eqb message 0x39) 30
    (cond (eqb message 0x25) 47
    (cond (eqb message 0x2C) 69
    (cond (eqb message 0x3A) 50
    (cond (eqb message 0x47) 11
    100)))))

-- the most bitfields: New Order 10, the other messages of the member 2, the sequenced ones of the venue 15, and 19 as the tables of the rejections print
unfoldable pub most_of : ℕ → ℕ
most_of message = cond (is_new_order message) 10 (cond (of_member message) 2 (cond (sequenced message) 15 19))

-- members' messages carry unit 0 and any number; 02, request 2: an unsequenced one from the venue carries unit 0 and number 0, a sequenced one a unit
-- 1 to 32 and any number
unfoldable pub unit_good : ℕ → ℕ → ℕ → Bool
unit_good message unit number =
    cond (of_member message) (eqb unit 0)
    (cond (unsequenced message) (eqb unit 0 && eqb number 0)
    (leb 1 unit && leb unit 32))

-- the values of the fixed part f, which begins at byte 10 of the message.
-- New Order, in either market: ClOrdID (20), never blank; Side (1), N, never blank; OrderQty (4), 1 to 999,999
abbrev pub new_order_good : List ℕ → Bool
new_order_good f =
    agrees_filled_of Identifier (take 20 f)
    && (agrees_filled_of Alphanumeric (take 1 (drop 20 f))
    && (leb 1 (number_at 4 21 f) && leb (number_at 4 21 f) 999999))

-- Cancel Order: OrigClOrdID (20), never blank
abbrev pub cancel_order_good : List ℕ → Bool
cancel_order_good f = agrees_filled_of Identifier (take 20 f)

-- Modify Order: ClOrdID (20) and OrigClOrdID (20), never blank
abbrev pub modify_order_good : List ℕ → Bool
modify_order_good f = agrees_filled_of Identifier (take 20 f) && agrees_filled_of Identifier (take 20 (drop 20 f))

-- Order Acknowledgment: TransactionTime (8); ClOrdID (20), never blank; OrderID (8); a reserved byte
abbrev pub acknowledgment_good : List ℕ → Bool
acknowledgment_good f = agrees_filled_of Identifier (take 20 (drop 8 f))

-- Order Execution: TransactionTime (8); ClOrdID (20), never blank; ExecID (8); LastShares (4); LastPx (8); LeavesQty (4);
-- BaseLiquidityIndicator (1), N; SubLiquidityIndicator (1), N; ContraBroker (4), N; a reserved byte
abbrev pub execution_good : List ℕ → Bool
execution_good f =
    agrees_filled_of Identifier (take 20 (drop 8 f))
    && (agrees_of Alphanumeric (take 1 (drop 52 f))
    && (agrees_of Alphanumeric (take 1 (drop 53 f))
    && agrees_of Alphanumeric (take 4 (drop 54 f))))

-- Order Rejected, Cancel Rejected and User Modify Rejected: TransactionTime (8); ClOrdID (20), never blank; the reason (1), T; Text (60), T; a
-- reserved byte
abbrev pub rejection_good : List ℕ → Bool
rejection_good f =
    agrees_filled_of Identifier (take 20 (drop 8 f))
    && (agrees_of Text (take 1 (drop 28 f))
    && agrees_of Text (take 60 (drop 29 f)))

-- 10: the values of the fixed part of a message of the type. That of Purge Orders is a reserved byte
unfoldable pub fixed_good : ℕ → List ℕ → Bool
fixed_good message f =
    cond (is_new_order message) (new_order_good f)
    (cond (eqb message 0x39) (cancel_order_good f)
    (cond (eqb message 0x25) (acknowledgment_good f)
    (cond (eqb message 0x2C) (execution_good f)
    (cond (eqb message 0x3A) (modify_order_good f)
    (cond (eqb message 0x47) true
    (rejection_good f))))))
