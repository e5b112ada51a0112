-- Unit pairs and groups of the login-like messages: which are in order, and how many bytes they take. Definitions alone.
-- Assumes nothing.
use Rattle.std.specs.Prelude.{ℕ, zero, suc, ◌+◌, ◌*◌, Bool, true, cond, ◌&&◌, List, leb, ltb, eqb, length, get_or, set, drop, replicate}
use Rattle.numbers.specs.Numbers.{number_at}

-- ---- none twice

-- Marks: place u holds 0 until u has come. u is free if it is not 0, has a place, and has not come.
abbrev pub free : List ℕ → ℕ → Bool
free marks u = ltb 0 u && (ltb u (length marks) && eqb (get_or marks u 0) 0)

-- the marks once u has come
abbrev pub mark : List ℕ → ℕ → List ℕ
mark marks u = set marks u 1

-- ---- pairs of unit (1) and last number (4)

-- the unit of pair i
abbrev pub unit_at : List ℕ → ℕ → ℕ
unit_at s i = get_or s (5 * i) 0

-- the units of n pairs from pair i on are free, each when it comes
unfoldable pub units_from : ℕ → ℕ → List ℕ → List ℕ → Bool
units_from zero i s marks = true
units_from (suc n) i s marks = free marks (unit_at s i) && units_from n (suc i) s (mark marks (unit_at s i))

-- 01, The bit dictionary: there are at most 32 pairs, each for a unit from 1 to 32, and no two for the same one.
-- Here n pairs at the front of s, all of them there.
unfoldable pub pairs_good : ℕ → List ℕ → Bool
pairs_good n s = leb n 32 && (leb (5 * n) (length s) && units_from n 0 s (replicate 33 0))

-- 01, The bit dictionary: there are at most 15 bitfields, and each may be any byte.
-- Here n bitfields at the front of s, all of them there.
unfoldable pub bits_good : ℕ → List ℕ → Bool
bits_good n s = leb n 15 && leb n (length s)

-- ---- groups: length (2, of the whole group), type, flag or message type, number of entries, the entries

-- 01, The bit dictionary: a group of type 0x80 goes on with its flag, 0 or 1, and one of type 0x81 with a message type, 0x25 or 0x2C.
-- 1 for the units, 2 for the bitfields of 0x25, 3 for those of 0x2C; 0 for what is neither.
abbrev pub key_of : ℕ → ℕ → ℕ
key_of t x =
    cond (eqb t 0x80) (cond (ltb x 2) 1 0)
    (cond (eqb t 0x81) (cond (eqb x 0x25) 2 (cond (eqb x 0x2C) 3 0))
    0)

-- of the group at the front of s
unfoldable pub group_key : List ℕ → ℕ
group_key s = cond (ltb (length s) 5) 0 (key_of (get_or s 2 0) (get_or s 3 0))

-- the list of a group
abbrev pub list_good : ℕ → ℕ → List ℕ → Bool
list_good key n s = cond (eqb key 1) (pairs_good n s) (bits_good n s)

-- the bytes of a group of n entries: five for a pair, one for a bitfield
abbrev pub size_by : ℕ → ℕ → ℕ
size_by key n = cond (eqb key 1) (5 + 5 * n) (5 + n)

-- the bytes of the group at the front of s; 0 if the length that it tells, or its list, is against the rules
unfoldable pub group_size : ℕ → List ℕ → ℕ
group_size key s =
    cond (eqb (number_at 2 0 s) (size_by key (get_or s 4 0)))
    (cond (list_good key (get_or s 4 0) (drop 5 s)) (size_by key (get_or s 4 0)) 0)
    0

-- 01, The bit dictionary: there is no second group of units, and no second group of bitfields for the same message type.
-- The same, and 0 too if such a group came before.
unfoldable pub next_size : List ℕ → List ℕ → ℕ
next_size marks s = cond (free marks (group_key s)) (group_size (group_key s) s) 0

-- the place after n groups that start at place `at` of s, and one; 0 where a group is against the rules
unfoldable pub groups_from : ℕ → ℕ → List ℕ → List ℕ → ℕ
groups_from zero at s marks = suc at
groups_from (suc n) at s marks =
    cond (eqb (next_size marks (drop at s)) 0) 0
    (groups_from n (at + next_size marks (drop at s)) s (mark marks (group_key (drop at s))))

-- n groups at the front of s: their bytes and one, or 0
abbrev pub groups_end : ℕ → List ℕ → ℕ
groups_end n s = groups_from n 0 s (replicate 4 0)
