-- Unit pairs and groups as values, which of them are in order, and their bytes. Definitions alone. Assumes nothing.
use Rattle.std.specs.Prelude.{◌≡◌, ◌⊎◌, Bool, true, ◌&&◌, List, [], ◌∷◌, ◌++◌, ℕ, ◌+◌, ◌*◌, ◌≤◌, ◌<◌, length, get_or}
use Rattle.numbers.specs.Numbers.{bytes_of}
use Rattle.session_groups.specs.Groups.{key_of, free, mark}

-- ---- none twice

-- the numbers of a list are from 1 to `most`, and none of them stands at two places
pub record Distinct (most : ℕ) (ks : List ℕ) : Type 0 where
  pub range : (i : ℕ) → i < length ks → (1 ≤ get_or ks i 0) × (get_or ks i 0 ≤ most)
  pub once : (i j : ℕ) → i < j → j < length ks → get_or ks i 0 ≡ get_or ks j 0 → ⊥

-- each is free when it comes: what a walk with marks finds
abbrev pub fresh : List ℕ → List ℕ → Bool
fresh marks [] = true
fresh marks (k ∷ ks) = free marks k && fresh (mark marks k) ks

-- ---- pairs

-- 01, The bit dictionary: a pair is a unit (1) and its last number (4).
pub record Pair : Type 0 where
  pub unit : ℕ
  pub number : ℕ

-- a pair's bytes
abbrev pub pair_bytes : Pair → List ℕ
pair_bytes p = p.unit ∷ bytes_of 4 p.number

-- those of pairs, one after the other
abbrev pub pairs_bytes : List Pair → List ℕ
pairs_bytes [] = []
pairs_bytes (p ∷ ps) = pair_bytes p ++ pairs_bytes ps

-- their units
abbrev pub units_of : List Pair → List ℕ
units_of [] = []
units_of (p ∷ ps) = p.unit ∷ units_of ps

-- their numbers have four bytes
abbrev pub NumbersFit : List Pair → Type 0
NumbersFit [] = Unit {0}
NumbersFit (p ∷ ps) = (p.number < 4294967296) × NumbersFit ps

-- 0 to 32 pairs, units 1 to 32, no unit twice; a number of four bytes each
pub record PairsInOrder (ps : List Pair) : Type 0 where
  pub few : length ps ≤ 32
  pub units : Distinct 32 (units_of ps)
  pub fit : NumbersFit ps

-- ---- groups

-- the units with their flag, and the bitfields of a message type
pub data Group : Type 0 where
  units : ℕ → List Pair → Group
  bits : ℕ → List ℕ → Group

-- 01, The bit dictionary: length (2, whole group), type, flag or message type, number of entries, the entries.
abbrev pub group_bytes : Group → List ℕ
group_bytes (units flag ps) = bytes_of 2 (5 + 5 * length ps) ++ (0x80 ∷ flag ∷ length ps ∷ pairs_bytes ps)
group_bytes (bits type list) = bytes_of 2 (5 + length list) ++ (0x81 ∷ type ∷ length list ∷ list)

-- those of groups, one after the other
abbrev pub groups_bytes : List Group → List ℕ
groups_bytes [] = []
groups_bytes (g ∷ gs) = group_bytes g ++ groups_bytes gs

-- the kinds: 1 the units, 2 and 3 the bitfields of 0x25 and of 0x2C
abbrev pub kind_of : Group → ℕ
kind_of (units flag ps) = key_of 0x80 flag
kind_of (bits type list) = key_of 0x81 type

-- the kinds of groups
abbrev pub kinds_of : List Group → List ℕ
kinds_of [] = []
kinds_of (g ∷ gs) = kind_of g ∷ kinds_of gs

-- a group's own rules: flag 0 or 1 and its pairs; message type 0x25 or 0x2C and up to 15 bytes
abbrev pub InOrder : Group → Type 0
InOrder (units flag ps) = (flag < 2) × PairsInOrder ps
InOrder (bits type list) = ((type ≡ 0x25) ⊎ (type ≡ 0x2C)) × (length list ≤ 15) × ((i : ℕ) → get_or list i 0 < 256)

-- each of the groups by its own rules
abbrev pub EachInOrder : List Group → Type 0
EachInOrder [] = Unit {0}
EachInOrder (g ∷ gs) = InOrder g × EachInOrder gs

-- each group by its own rules, and each kind once
pub record GroupsInOrder (gs : List Group) : Type 0 where
  pub each : EachInOrder gs
  pub kinds : Distinct 3 (kinds_of gs)
