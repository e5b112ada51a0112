-- 02, request 4: the two markets, equities and options. New Order has the type 38 in both, and a dictionary of its own in each; in a record that of the
-- options market has the type B8, so that a record tells its own dictionary, and all that is said of orders is said of these types. Definitions alone.
-- Assumes nothing.
use Rattle.std.specs.Prelude.{ℕ, zero, suc, Bool, cond, ◌||◌, List, ◌∷◌, ◌++◌, eqb, take, drop}
use Rattle.wire.specs.Header.{type_of}
use Rattle.orders.specs.declared.Market.{Market}
use Rattle.orders.specs.declared.Market.TheVariants.{Equities, Options}

-- a market by its number, where one is given: 0 is equities, any other options
abbrev pub market_of : ℕ → Market
market_of zero = Equities
market_of (suc n) = Options

-- the type that a record of a market's New Order has
abbrev pub new_order_of : Market → ℕ
new_order_of Equities = 0x38
new_order_of Options = 0xB8

-- the types that records have of the orders that a member of a market sends: its New Order, Cancel Order, Modify Order, Purge Orders
abbrev pub of_market : Market → ℕ → Bool
of_market market message = eqb message (new_order_of market) || (eqb message 0x39 || (eqb message 0x3A || eqb message 0x47))

-- the type that a record has, by the type of its message on the wire: in the options market 38 is B8, and B8, which no message has there, is none
abbrev pub record_type : Market → ℕ → ℕ
record_type Equities type = type
record_type Options type = cond (eqb type 0x38) 0xB8 (cond (eqb type 0xB8) 0 type)

-- the type that its message has on the wire
abbrev pub wire_type : ℕ → ℕ
wire_type type = cond (eqb type 0xB8) 0x38 type

-- a message with another type
unfoldable pub typed : ℕ → List ℕ → List ℕ
typed type m = take 4 m ++ (type ∷ drop 5 m)

-- a message of the wire as it is read in a market: under its record's type
abbrev pub heard_in : Market → List ℕ → List ℕ
heard_in Equities m = m
heard_in Options m = typed (record_type Options (type_of m)) m

-- a message under its record's type as it stands on the wire
abbrev pub on_wire : List ℕ → List ℕ
on_wire m = typed (wire_type (type_of m)) m
