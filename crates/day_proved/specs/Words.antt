-- The words of demand 3, as definitions: what a book and a log hold of a unit, and what a cut keeps. Definitions alone. Assumes nothing.
use Rattle.std.specs.Prelude.{ℕ, ◌-◌, Bool, true, false, List, [], ◌∷◌, map, leb}
use Rattle.wire.specs.Header.{unit_of}
use Rattle.day_model.specs.Model.{Msg, Item, item_size, messages, of_unit_by}
use Rattle.session.specs.Booked.{items}

-- bytes, and messages as bytes
abbrev pub Bytes : Type 0
Bytes = List ℕ

-- the messages that a book's bytes hold, in their order
abbrev pub in_book : Bytes → List Bytes
in_book bytes = map (λ (m : Msg). m.body) (messages (items bytes))

-- those of a unit, in their order
abbrev pub of_unit : ℕ → List Bytes → List Bytes
of_unit u bs = of_unit_by unit_of u bs

-- the items of a book, marks and messages, that end within its first k bytes
abbrev pub keep_item : Bool → Item → List Item → List Item
keep_item true i r = i ∷ r
keep_item false i r = []

abbrev pub within : ℕ → List Item → List Item
within k [] = []
within k (i ∷ is) = keep_item (leb (item_size i) k) i (within (k - item_size i) is)

-- the whole messages that a cut to k bytes keeps
abbrev pub whole_in : ℕ → Bytes → List Bytes
whole_in k bytes = map (λ (m : Msg). m.body) (messages (within k (items bytes)))

-- the last of some messages, after one that came before them
abbrev pub newest : Bytes → List Bytes → Bytes
newest m [] = m
newest m (n ∷ ns) = newest n ns
