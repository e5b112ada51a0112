-- The numbers of refusal, each with its name: document 01's table, in its order, and after it document 02's. 0 is no refusal.
-- Definitions alone. Assumes nothing.
use Rattle.std.specs.Prelude.{ℕ}

-- a byte present at place 0 or 1 is not BA
abbrev pub bad_start : ℕ
bad_start = 1

-- four bytes are present, and the length is under 8 or over 2,046
abbrev pub bad_length : ℕ
bad_length = 2

-- fewer than four bytes, or fewer than the total
abbrev pub incomplete : ℕ
incomplete = 3

-- a type unknown in this direction
abbrev pub unknown_type : ℕ
unknown_type = 4

-- a unit or number against the rules
abbrev pub bad_unit : ℕ
bad_unit = 5

-- a total unlike what the counts and widths give
abbrev pub wrong_total : ℕ
wrong_total = 6

-- a bitfield count above the message's most
abbrev pub too_many_bitfields : ℕ
too_many_bitfields = 7

-- a set bit that is not listed
abbrev pub unlisted_bit : ℕ
unlisted_bit = 8

-- a required field that is not selected
abbrev pub not_selected : ℕ
not_selected = 9

-- a value against its kind or range
abbrev pub bad_value : ℕ
bad_value = 10

-- a login group against its rules, lengths included
abbrev pub bad_group : ℕ
bad_group = 11

-- writer: an unselected field that is not zero
abbrev pub not_zero : ℕ
not_zero = 12

-- a buffer too short for the whole result
abbrev pub no_room : ℕ
no_room = 13

-- a unit's number at or below the table's
abbrev pub already_taken : ℕ
already_taken = 14

-- a number two or more above the table's
abbrev pub gap : ℕ
gap = 15

-- a session call that its phase does not take
abbrev pub out_of_phase : ℕ
out_of_phase = 16

-- the first mark has another date than asked
abbrev pub other_date : ℕ
other_date = 17

-- a book neither whole nor torn
abbrev pub bad_book : ℕ
bad_book = 18

-- not a calendar day of 1970 to 2099
abbrev pub not_a_day : ℕ
not_a_day = 19

-- the outgoing number 4,294,967,295 is already used
abbrev pub numbers_used_up : ℕ
numbers_used_up = 20

-- venue: a nonzero number at or below the last one
abbrev pub old_number : ℕ
old_number = 21

-- restart on a book under 16 bytes
abbrev pub no_first_mark : ℕ
no_first_mark = 22

-- 02, request 1: L without F, or Symbol together with a MatchingUnit other than 0
abbrev pub conflict : ℕ
conflict = 23

-- 02, request 9: NONE, a unit of which the book has no message
abbrev pub no_message : ℕ
no_message = 26
