-- The optional block over any dictionary. A slot is whether its bit is set, and what the dictionary has for it. Definitions alone.
-- Assumes nothing.
use Rattle.std.specs.Prelude.{ℕ, suc, ◌+◌, ◌/◌, Bool, true, false, cond, ◌&&◌, ◌||◌, List, [], ◌∷◌, ◌++◌, take, drop, replicate}
use Rattle.kinds.specs.Kinds.{all_nul, agrees_of}
use Rattle.dictionary.specs.declared.Entry.{Entry}
use Rattle.dictionary.specs.declared.Entry.TheVariants.{Refused, Field}

-- n zero bytes
abbrev pub zeros : ℕ → List ℕ
zeros n = replicate n 0

-- whether the bit is set, and what the dictionary has for it
pub data Slot : Type 0 where
  slot : Bool → Entry → Slot

-- a field's bytes; a bit that is not listed has none
abbrev pub width_of : Entry → ℕ
width_of Refused = 0
width_of (Field w k p) = w

-- the bytes of a slot in the full layout of a record, selected or not
abbrev pub width : Slot → ℕ
width (slot set e) = width_of e

-- the bytes of a slot in a message: those of a selected field
abbrev pub takes : Slot → ℕ
takes (slot true e) = width_of e
takes (slot false e) = 0

-- a measure of the slots, summed
abbrev pub sum : (Slot → ℕ) → List Slot → ℕ
sum f [] = 0
sum f (s ∷ ss) = f s + sum f ss

-- 8: a set bit that is not listed
abbrev pub bad_slot : Slot → Bool
bad_slot (slot true Refused) = true
bad_slot (slot true (Field w k p)) = false
bad_slot (slot false e) = false

-- 8: whether one of the slots is such a bit
abbrev pub any_bad : List Slot → Bool
any_bad [] = false
any_bad (s ∷ ss) = bad_slot s || any_bad ss

-- where the first such bit stands: its bitfield byte, the first being 1, of slots from place k on; 0 where there is none
abbrev pub bad_byte : ℕ → List Slot → ℕ
bad_byte k [] = 0
bad_byte k (s ∷ ss) = cond (bad_slot s) (k / 8 + 1) (bad_byte (suc k) ss)

-- what a slot of the layout holds of a message's optional bytes m: the front of them, or zeros where it is not selected
abbrev pub held : Slot → List ℕ → List ℕ
held (slot true e) m = take (width_of e) m
held (slot false e) m = zeros (width_of e)

-- reading: a message's optional bytes spread into the full layout, slot by slot
abbrev pub spread : List Slot → List ℕ → List ℕ
spread [] m = []
spread (s ∷ ss) m = held s m ++ spread ss (drop (takes s) m)

-- what a slot of a layout v puts into a message
abbrev pub sent : Slot → List ℕ → List ℕ
sent (slot true e) v = take (width_of e) v
sent (slot false e) v = []

-- writing: the selected fields of a full layout gathered, in their order
abbrev pub gathered : List Slot → List ℕ → List ℕ
gathered [] v = []
gathered (s ∷ ss) v = sent s v ++ gathered ss (drop (width s) v)

-- 10: whether a selected field's bytes agree with its kind
abbrev pub agree_slot : Slot → List ℕ → Bool
agree_slot (slot true (Field w k p)) v = agrees_of k (take w v)
agree_slot (slot true Refused) v = true
agree_slot (slot false e) v = true

-- 10: of the optional bytes of a message, whether all selected fields agree
abbrev pub agree_sent : List Slot → List ℕ → Bool
agree_sent [] m = true
agree_sent (s ∷ ss) m = agree_slot s m && agree_sent ss (drop (takes s) m)

-- 10: the same of a full layout
abbrev pub agree_held : List Slot → List ℕ → Bool
agree_held [] v = true
agree_held (s ∷ ss) v = agree_slot s v && agree_held ss (drop (width s) v)

-- where the first field stands that does not: its first byte, counted from 1 among the optional bytes, of slots with `at` such bytes before them;
-- 0 where all agree. Of the optional bytes m
abbrev pub wrong_sent : ℕ → List Slot → List ℕ → ℕ
wrong_sent at [] m = 0
wrong_sent at (s ∷ ss) m = cond (agree_slot s m) (wrong_sent (at + takes s) ss (drop (takes s) m)) (at + 1)

-- and of a full layout v: where the field would stand among the optional bytes
abbrev pub wrong_held : ℕ → List Slot → List ℕ → ℕ
wrong_held at [] v = 0
wrong_held at (s ∷ ss) v = cond (agree_slot s v) (wrong_held (at + takes s) ss (drop (width s) v)) (at + 1)

-- 12: whether an unselected slot is zero
abbrev pub zero_slot : Slot → List ℕ → Bool
zero_slot (slot true e) v = true
zero_slot (slot false e) v = all_nul (take (width_of e) v)

-- every unselected slot of a layout is zero, and so are the bytes after the last slot
abbrev pub zero_elsewhere : List Slot → List ℕ → Bool
zero_elsewhere [] v = all_nul v
zero_elsewhere (s ∷ ss) v = zero_slot s v && zero_elsewhere ss (drop (width s) v)
