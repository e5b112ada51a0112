-- The Login Request that is built from the sequence table and a choice of units. Definitions alone. Assumes nothing.
use Rattle.std.specs.Prelude.{ℕ, zero, suc, ◌+◌, ◌-◌, ◌*◌, Bool, true, false, cond, List, [], ◌∷◌, ◌++◌, leb, ltb, eqb, length, take, replicate}
use Rattle.numbers.specs.Numbers.{bytes_of}
use Rattle.block.specs.Slots.{zeros}
use Rattle.table.specs.declared.Table.{Table}
use Rattle.table.specs.declared.Unit.{Unit}
use Rattle.table.specs.Table.{last_of}
use Rattle.session_groups.specs.Values.{Pair, pairs_bytes}
use Rattle.session_messages.specs.declared.Record.{Record}
use Rattle.session_logins.specs.declared.Choice.{Choice}
use Rattle.session_logins.specs.declared.Bitfields.{Bitfields}

-- ---- the choice of units

-- n units from k on, ascending
abbrev pub up_from : ℕ → ℕ → List ℕ
up_from zero k = []
up_from (suc n) k = k ∷ up_from n (suc k)

-- the same as units
abbrev pub units_up : ℕ → ℕ → List Unit
units_up zero k = []
units_up (suc n) k = record { 0 = k } ∷ units_up n (suc k)

-- all 32 with flag 1
abbrev pub all_units : Choice
all_units = record { which = 1; flag = 1; count = 32; units = units_up 32 1 }

-- one, where a test holds, before others
abbrev pub only_if : Bool → ℕ → List Unit → List Unit
only_if true u us = record { 0 = u } ∷ us
only_if false u us = us

-- whether a unit's entry is above 0
abbrev pub is_used : Table → ℕ → Bool
is_used table u = ltb 0 (last_of table u)

-- of n units from k on those of which this is so, ascending
unfoldable pub used_from : Table → ℕ → ℕ → List Unit
used_from table zero k = []
used_from table (suc n) k = only_if (is_used table k) k (used_from table n (suc k))

-- the places of a choice: the units that it lists, and 0 in the others
abbrev pub filled : List Unit → List Unit
filled us = us ++ replicate (32 - length us) (record { 0 = 0 })

-- 02, request 6: only the units whose entry is above 0, with flag 0
abbrev pub used_units : Table → Choice
used_units table = record { which = 1; flag = 0; count = length (used_from table 32 1); units = filled (used_from table 32 1) }

-- the places of a choice that lists none
abbrev pub blank_units : List Unit
blank_units = replicate 32 (record { 0 = 0 })

-- no choice given
abbrev pub no_choice : Choice
no_choice = record { which = 0; flag = 0; count = 0; units = blank_units }

-- 02, request 6: the two forms of a login with the whole table, the full list asked for by name and no choice given
abbrev pub whole_table : Bool → Choice
whole_table true = all_units
whole_table false = no_choice

-- units as the bytes that they are on the wire
abbrev pub numbers_of : List Unit → List ℕ
numbers_of [] = []
numbers_of (u ∷ us) = u.0 ∷ numbers_of us

-- the first where a test holds, else the second
abbrev pub pick_choice : Bool → Choice → Choice → Choice
pick_choice true a b = a
pick_choice false a b = b

-- 02, request 6, in the place of 01, The bit dictionary: where no choice is given, the units whose entry is above 0 are listed, and the flag is 0
unfoldable pub choice_of : Table → Choice → Choice
choice_of table c = pick_choice (eqb c.which 0) (used_units table) c

-- ---- the groups

-- the lesser of two
abbrev pub least : ℕ → ℕ → ℕ
least a b = cond (leb a b) a b

-- pairs of unit and last number, which is always the table's
abbrev pub pairs_for : Table → List ℕ → List Pair
pairs_for table [] = []
pairs_for table (u ∷ us) = record { unit = u; number = last_of table u } ∷ pairs_for table us

-- 01, The bit dictionary: the group of units, by its length, type, flag and count, and its pairs.
-- Garbage is kept as it is, for the writer to refuse.
abbrev pub units_group : Table → Choice → List ℕ
units_group table c = bytes_of 2 (5 + 5 * c.count) ++ (0x80 ∷ c.flag ∷ c.count ∷ pairs_bytes (pairs_for table (take (least c.count 32) (numbers_of c.units))))

-- 01, The bit dictionary: a group of bitfields, by its length, type, message type and count, and its bytes.
abbrev pub bits_group : ℕ → Bitfields → List ℕ
bits_group type b = bytes_of 2 (5 + b.count) ++ (0x81 ∷ type ∷ b.count ∷ take (least b.count 15) b.bits)

-- a group that is there, or nothing
abbrev pub part : Bool → List ℕ → List ℕ
part true g = g
part false g = []

-- the group of units, where one is chosen
unfoldable pub units_part : Table → Choice → List ℕ
units_part table c = part (eqb c.which 1) (units_group table c)

-- the group of bitfields of a message type, where it is given
unfoldable pub bits_part : ℕ → Bitfields → List ℕ
bits_part type b = part b.given (bits_group type b)

-- 1 for what is there
abbrev pub one : Bool → ℕ
one true = 1
one false = 0

-- the number of groups
unfoldable pub group_count : Choice → Bitfields → Bitfields → ℕ
group_count c acknowledgments executions = one (eqb c.which 1) + (one acknowledgments.given + one executions.given)

-- the group of units first, then the bitfields of 0x25, then those of 0x2C
abbrev pub groups_part : Table → Choice → Bitfields → Bitfields → List ℕ
groups_part table c acknowledgments executions = units_part table c ++ (bits_part 0x25 acknowledgments ++ bits_part 0x2C executions)

-- ---- the record

-- 01, The bit dictionary: the three names in 18 bytes, the number of groups, and the groups.
abbrev pub said_of : Table → Choice → List ℕ → Bitfields → Bitfields → List ℕ
said_of table c names acknowledgments executions = names ++ (group_count c acknowledgments executions ∷ groups_part table c acknowledgments executions)

-- and zero after them
abbrev pub padded : List ℕ → List ℕ
padded s = s ++ zeros (433 - length s)

-- the record of a Login Request: unit 0, number 0, and that body
unfoldable pub login_record : Table → Choice → List ℕ → Bitfields → Bitfields → Record
login_record table choice names acknowledgments executions =
    record { message = 0x37; unit = 0; number = 0; body = padded (said_of table (choice_of table choice) names acknowledgments executions) }
