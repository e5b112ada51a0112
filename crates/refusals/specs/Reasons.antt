-- The reasons to refuse, each by its number. Definitions alone. Assumes nothing.
use Rattle.std.specs.Prelude.{◌≡◌, ℕ, ◌<◌, cond, eqb}
use Rattle.refusals.specs.declared.Reason.{Reason}
use Rattle.refusals.specs.declared.Reason.TheVariants.{BadStart, BadLength, Incomplete, UnknownType, BadUnit, WrongTotal, TooManyBitfields, UnlistedBit, NotSelected, BadValue, BadGroup, NotZero, NoRoom, AlreadyTaken, Gap, OutOfPhase, OtherDate, BadBook, NotADay, NumbersUsedUp, OldNumber, NoFirstMark, Conflict, NoMessage}
use Rattle.refusals.specs.Told.{number_in, place_in}
use Rattle.refusals.specs.Names.{bad_start, bad_length, incomplete, unknown_type, bad_unit, wrong_total, too_many_bitfields, unlisted_bit, not_selected, bad_value, bad_group, not_zero, no_room, already_taken, gap, out_of_phase, other_date, bad_book, not_a_day, numbers_used_up, old_number, no_first_mark, conflict, no_message}

-- the number of a reason
abbrev pub number_of : Reason → ℕ
number_of BadStart = bad_start
number_of BadLength = bad_length
number_of Incomplete = incomplete
number_of UnknownType = unknown_type
number_of BadUnit = bad_unit
number_of WrongTotal = wrong_total
number_of TooManyBitfields = too_many_bitfields
number_of UnlistedBit = unlisted_bit
number_of NotSelected = not_selected
number_of BadValue = bad_value
number_of BadGroup = bad_group
number_of NotZero = not_zero
number_of NoRoom = no_room
number_of AlreadyTaken = already_taken
number_of Gap = gap
number_of OutOfPhase = out_of_phase
number_of OtherDate = other_date
number_of BadBook = bad_book
number_of NotADay = not_a_day
number_of NumbersUsedUp = numbers_used_up
number_of OldNumber = old_number
number_of NoFirstMark = no_first_mark
number_of Conflict = conflict
number_of NoMessage = no_message

-- and the reason of a number; of one that is no reason's, the last
abbrev pub reason_of : ℕ → Reason
reason_of n =
    (cond (eqb n bad_start) BadStart
    (cond (eqb n bad_length) BadLength
    (cond (eqb n incomplete) Incomplete
    (cond (eqb n unknown_type) UnknownType
    (cond (eqb n bad_unit) BadUnit
    (cond (eqb n wrong_total) WrongTotal
    (cond (eqb n too_many_bitfields) TooManyBitfields
    (cond (eqb n unlisted_bit) UnlistedBit
    (cond (eqb n not_selected) NotSelected
    (cond (eqb n bad_value) BadValue
    (cond (eqb n bad_group) BadGroup
    (cond (eqb n not_zero) NotZero
    (cond (eqb n no_room) NoRoom
    (cond (eqb n already_taken) AlreadyTaken
    (cond (eqb n gap) Gap
    (cond (eqb n out_of_phase) OutOfPhase
    (cond (eqb n other_date) OtherDate
    (cond (eqb n bad_book) BadBook
    (cond (eqb n not_a_day) NotADay
    (cond (eqb n numbers_used_up) NumbersUsedUp
    (cond (eqb n old_number) OldNumber
    (cond (eqb n no_first_mark) NoFirstMark
    (cond (eqb n conflict) Conflict
    NoMessage)))))))))))))))))))))))

-- whether a number is a refusal's: the low byte is a reason's number, and the place above it is under 1,000,000
unfoldable pub IsRefusal : ℕ → Type 0
IsRefusal n = (number_of (reason_of (number_in n)) ≡ number_in n) × (place_in n < 1000000)
