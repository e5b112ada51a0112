-- The bit dictionary: document 01's lists, and those of documents 000 and 002 for what 02 adds, a line for each listed bit of a message. Definitions alone. Assumes nothing.
use Rattle.std.specs.Prelude.{ℕ, ◌+◌, Bool, true, false, cond, ◌&&◌, ◌||◌, List, [], ◌∷◌, eqb}
use Rattle.kinds.specs.declared.Kind.{Kind}
use Rattle.kinds.specs.declared.Kind.TheVariants.{Letters, Alphanumeric, Text, Binary, Price, FilledText, Day}
use Rattle.dictionary.specs.declared.Entry.{Entry}
use Rattle.dictionary.specs.declared.Entry.TheVariants.{Refused, Field}

-- the kinds by document 01's letters
abbrev A : Kind
A = Letters

abbrev N : Kind
N = Alphanumeric

abbrev T : Kind
T = Text

abbrev B : Kind
B = Binary

abbrev P : Kind
P = Price

-- T that is never blank
abbrev F : Kind
F = FilledText

-- a calendar day
abbrev D : Kind
D = Day

-- a line: bitfield byte, bit (1, 2, 4 to 128), width, kind
pub data Line : Type 0 where
  line : ℕ → ℕ → ℕ → Kind → Line

-- New Order
abbrev pub new_order : List Line
new_order =
    line 1 1 4 A  -- ClearingFirm
    ∷ line 1 2 4 T  -- ClearingAccount
    ∷ line 1 4 8 P  -- Price
    ∷ line 1 8 1 T  -- ExecInst
    ∷ line 1 16 1 N  -- OrdType
    ∷ line 1 32 1 N  -- TimeInForce
    ∷ line 1 64 4 B  -- MinQty
    ∷ line 1 128 4 B  -- MaxFloor
    ∷ line 2 1 8 N  -- Symbol
    ∷ line 2 2 8 N  -- SymbolSfx
    ∷ line 2 64 1 A  -- Capacity
    ∷ line 2 128 4 T  -- RoutingInst
    ∷ line 3 1 16 T  -- Account
    ∷ line 3 64 1 A  -- LocateReqd
    ∷ line 3 128 8 B  -- ExpireTime
    ∷ line 6 1 4 B  -- DisplayRange
    ∷ line 6 2 8 P  -- StopPx
    ∷ line 6 16 1 T  -- ExDestination
    ∷ line 6 32 64 T  -- EchoText
    ∷ line 10 2 4 A  -- LocateBroker
    ∷ []

-- The options New Order: byte 1 as 002's table has it, bytes 2 and 3 the bits that 02, request 4, names, and byte 4 its own
abbrev pub options_order : List Line
options_order =
    line 1 1 4 A  -- ClearingFirm
    ∷ line 1 2 4 T  -- ClearingAccount
    ∷ line 1 4 8 P  -- Price
    ∷ line 1 8 1 T  -- ExecInst
    ∷ line 1 16 1 N  -- OrdType
    ∷ line 1 32 1 N  -- TimeInForce
    ∷ line 1 64 4 B  -- MinQty
    ∷ line 1 128 4 B  -- MaxFloor
    ∷ line 2 1 8 N  -- Symbol
    ∷ line 2 64 1 A  -- Capacity
    ∷ line 2 128 4 T  -- RoutingInst
    ∷ line 3 1 16 T  -- Account
    ∷ line 4 1 4 D  -- MaturityDate
    ∷ line 4 2 8 P  -- StrikePrice
    ∷ line 4 4 1 N  -- PutOrCall
    ∷ line 4 16 1 N  -- OpenClose
    ∷ []

-- Cancel Order
abbrev pub cancel_order : List Line
cancel_order =
    line 1 1 4 A  -- ClearingFirm
    ∷ []

-- Modify Order: the bits that 000's Table 60 marks
abbrev pub modify_order : List Line
modify_order =
    line 1 1 4 A  -- ClearingFirm
    ∷ line 1 4 4 B  -- OrderQty
    ∷ line 1 8 8 P  -- Price
    ∷ line 1 16 1 N  -- OrdType
    ∷ line 1 32 1 A  -- CancelOrigOnReject
    ∷ line 1 64 1 T  -- ExecInst
    ∷ line 1 128 1 N  -- Side
    ∷ line 2 1 4 B  -- MaxFloor
    ∷ line 2 2 8 P  -- StopPx
    ∷ line 2 128 4 A  -- LocateBroker
    ∷ []

-- Purge Orders: the bits that 000's Table 61 marks
abbrev pub purge_orders : List Line
purge_orders =
    line 1 1 4 A  -- ClearingFirm
    ∷ line 1 4 16 F  -- MassCancelInst
    ∷ line 1 16 20 T  -- MassCancelID
    ∷ line 2 1 8 N  -- Symbol
    ∷ line 2 2 8 N  -- SymbolSfx
    ∷ line 2 128 1 B  -- MatchingUnit
    ∷ []

-- Order Acknowledgment
abbrev pub acknowledgments : List Line
acknowledgments =
    line 1 1 1 N  -- Side
    ∷ line 1 4 8 P  -- Price
    ∷ line 1 8 1 T  -- ExecInst
    ∷ line 1 16 1 N  -- OrdType
    ∷ line 1 32 1 N  -- TimeInForce
    ∷ line 1 64 4 B  -- MinQty
    ∷ line 2 1 8 N  -- Symbol
    ∷ line 2 2 8 N  -- SymbolSfx
    ∷ line 2 64 1 A  -- Capacity
    ∷ line 3 1 16 T  -- Account
    ∷ line 3 2 4 A  -- ClearingFirm
    ∷ line 3 4 4 T  -- ClearingAccount
    ∷ line 3 16 4 B  -- MaxFloor
    ∷ line 3 64 4 B  -- OrderQty
    ∷ line 5 2 4 B  -- LeavesQty
    ∷ line 5 4 4 B  -- LastShares
    ∷ line 5 8 8 P  -- LastPx
    ∷ line 5 128 8 B  -- ExpireTime
    ∷ []

-- Order Execution
abbrev pub executions : List Line
executions =
    line 1 1 1 N  -- Side
    ∷ line 1 4 8 P  -- Price
    ∷ line 1 8 1 T  -- ExecInst
    ∷ line 1 16 1 N  -- OrdType
    ∷ line 1 32 1 N  -- TimeInForce
    ∷ line 1 64 4 B  -- MinQty
    ∷ line 2 1 8 N  -- Symbol
    ∷ line 2 2 8 N  -- SymbolSfx
    ∷ line 2 64 1 A  -- Capacity
    ∷ line 3 1 16 T  -- Account
    ∷ line 3 2 4 A  -- ClearingFirm
    ∷ line 3 4 4 T  -- ClearingAccount
    ∷ line 3 16 4 B  -- MaxFloor
    ∷ line 3 64 4 B  -- OrderQty
    ∷ []

-- Order Rejected: the bits that 000's Table 64 marks
abbrev pub rejections : List Line
rejections =
    line 1 1 1 N  -- Side
    ∷ line 1 2 8 P  -- PegDifference
    ∷ line 1 4 8 P  -- Price
    ∷ line 1 8 1 T  -- ExecInst
    ∷ line 1 16 1 N  -- OrdType
    ∷ line 1 32 1 N  -- TimeInForce
    ∷ line 1 64 4 B  -- MinQty
    ∷ line 2 1 8 N  -- Symbol
    ∷ line 2 2 8 N  -- SymbolSfx
    ∷ line 2 64 1 A  -- Capacity
    ∷ line 3 1 16 T  -- Account
    ∷ line 3 2 4 A  -- ClearingFirm
    ∷ line 3 4 4 T  -- ClearingAccount
    ∷ line 3 8 1 N  -- DisplayIndicator
    ∷ line 3 16 4 B  -- MaxFloor
    ∷ line 3 32 2 B  -- DiscretionAmount
    ∷ line 3 64 4 B  -- OrderQty
    ∷ line 3 128 3 N  -- PreventMatch
    ∷ line 6 1 8 B  -- SecondaryOrderID
    ∷ line 6 8 1 N  -- AttributedQuote
    ∷ line 6 16 1 T  -- ExtExecInst
    ∷ line 8 2 64 T  -- EchoText
    ∷ line 8 4 8 P  -- StopPx
    ∷ line 8 8 4 T  -- RoutingInst
    ∷ line 8 16 6 T  -- RoutStrategy
    ∷ line 8 32 3 T  -- RouteDeliveryMethod
    ∷ line 8 64 1 T  -- ExDestination
    ∷ []

-- Cancel Rejected: the bits that 000's Table 69 marks
abbrev pub cancel_rejections : List Line
cancel_rejections =
    line 1 1 1 N  -- Side
    ∷ line 1 2 8 P  -- PegDifference
    ∷ line 1 4 8 P  -- Price
    ∷ line 1 8 1 T  -- ExecInst
    ∷ line 1 16 1 N  -- OrdType
    ∷ line 1 32 1 N  -- TimeInForce
    ∷ line 1 64 4 B  -- MinQty
    ∷ line 2 1 8 N  -- Symbol
    ∷ line 2 2 8 N  -- SymbolSfx
    ∷ line 2 64 1 A  -- Capacity
    ∷ line 8 2 64 T  -- EchoText
    ∷ line 8 4 8 P  -- StopPx
    ∷ []

-- A message's list. The options New Order, which has the type byte of the equities' one, is told by a number of its own, B8. Order Execution uses the acknowledgment's bits, narrowed to those that 000 marks for it. Of User
-- Modify Rejected 000's Table 67 marks no bit; other types have none.
abbrev pub list_of : ℕ → List Line
list_of message =
    cond (eqb message 0x38) new_order
    (cond (eqb message 0x39) cancel_order
    (cond (eqb message 0x25) acknowledgments
    (cond (eqb message 0x2C) executions
    (cond (eqb message 0x26) rejections
    (cond (eqb message 0x2B) cancel_rejections
    (cond (eqb message 0x3A) modify_order
    (cond (eqb message 0x47) purge_orders
    (cond (eqb message 0xB8) options_order
    []))))))))

-- the first where a test holds, else the second
abbrev pub pick : Bool → Entry → Entry → Entry
pick true a b = a
pick false a b = b

-- which bit a value is, counted from 0, the lowest
abbrev pub index_of : ℕ → ℕ
index_of value =
    cond (eqb value 1) 0 (cond (eqb value 2) 1 (cond (eqb value 4) 2 (cond (eqb value 8) 3
    (cond (eqb value 16) 4 (cond (eqb value 32) 5 (cond (eqb value 64) 6 7))))))

-- The line of a byte and a bit (counted from 0), with its place in the full layout: the widths of the lines before it.
-- A bit not listed is refused.
abbrev pub lookup : List Line → ℕ → ℕ → ℕ → Entry
lookup [] place byte bit = Refused
lookup (line b t w k ∷ ls) place byte bit = pick (eqb byte b && eqb bit (index_of t)) (Field w k place) (lookup ls (place + w) byte bit)

-- what a bit of a bitfield byte selects in a message of a type
unfoldable pub entry_of : ℕ → ℕ → ℕ → Entry
entry_of message byte bit = lookup (list_of message) 0 byte bit

-- the New Order of either market
abbrev pub is_new_order : ℕ → Bool
is_new_order message = eqb message 0x38 || eqb message 0xB8
