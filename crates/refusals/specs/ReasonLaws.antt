-- A reason and a place are told apart again by the number that tells both. Assumes nothing.
use Rattle.std.specs.Prelude.{◌≡◌, refl, ℕ, ◌%◌, ◌/◌, ◌<◌}
use Rattle.std.proofs.Common.{arith, ap, sym, ◌∙◌}
use Rattle.refusals.specs.declared.Reason.{Reason}
use Rattle.refusals.specs.declared.Reason.TheVariants.{BadStart, BadLength, Incomplete, UnknownType, BadUnit, WrongTotal, TooManyBitfields, UnlistedBit, NotSelected, BadValue, BadGroup, NotZero, NoRoom, AlreadyTaken, Gap, OutOfPhase, OtherDate, BadBook, NotADay, NumbersUsedUp, OldNumber, NoFirstMark, Conflict, NoMessage}
use Rattle.refusals.specs.Told.{told}
use Rattle.refusals.specs.Reasons.{number_of, reason_of, IsRefusal}

pub reason_back : (r : Reason) → reason_of (number_of r) ≡ r
reason_back BadStart = refl
reason_back BadLength = refl
reason_back Incomplete = refl
reason_back UnknownType = refl
reason_back BadUnit = refl
reason_back WrongTotal = refl
reason_back TooManyBitfields = refl
reason_back UnlistedBit = refl
reason_back NotSelected = refl
reason_back BadValue = refl
reason_back BadGroup = refl
reason_back NotZero = refl
reason_back NoRoom = refl
reason_back AlreadyTaken = refl
reason_back Gap = refl
reason_back OutOfPhase = refl
reason_back OtherDate = refl
reason_back BadBook = refl
reason_back NotADay = refl
reason_back NumbersUsedUp = refl
reason_back OldNumber = refl
reason_back NoFirstMark = refl
reason_back Conflict = refl
reason_back NoMessage = refl

pub number_small : (r : Reason) → number_of r < 256
number_small BadStart = omega arith
number_small BadLength = omega arith
number_small Incomplete = omega arith
number_small UnknownType = omega arith
number_small BadUnit = omega arith
number_small WrongTotal = omega arith
number_small TooManyBitfields = omega arith
number_small UnlistedBit = omega arith
number_small NotSelected = omega arith
number_small BadValue = omega arith
number_small BadGroup = omega arith
number_small NotZero = omega arith
number_small NoRoom = omega arith
number_small AlreadyTaken = omega arith
number_small Gap = omega arith
number_small OutOfPhase = omega arith
number_small OtherDate = omega arith
number_small BadBook = omega arith
number_small NotADay = omega arith
number_small NumbersUsedUp = omega arith
number_small OldNumber = omega arith
number_small NoFirstMark = omega arith
number_small Conflict = omega arith
number_small NoMessage = omega arith

pub number_some : (r : Reason) → 0 < number_of r
number_some BadStart = omega arith
number_some BadLength = omega arith
number_some Incomplete = omega arith
number_some UnknownType = omega arith
number_some BadUnit = omega arith
number_some WrongTotal = omega arith
number_some TooManyBitfields = omega arith
number_some UnlistedBit = omega arith
number_some NotSelected = omega arith
number_some BadValue = omega arith
number_some BadGroup = omega arith
number_some NotZero = omega arith
number_some NoRoom = omega arith
number_some AlreadyTaken = omega arith
number_some Gap = omega arith
number_some OutOfPhase = omega arith
number_some OtherDate = omega arith
number_some BadBook = omega arith
number_some NotADay = omega arith
number_some NumbersUsedUp = omega arith
number_some OldNumber = omega arith
number_some NoFirstMark = omega arith
number_some Conflict = omega arith
number_some NoMessage = omega arith

pub reason_of-told : (r : Reason) (at : ℕ) → reason_of (told (number_of r) at % 256) ≡ r
reason_of-told r at =
    let low : told (number_of r) at % 256 ≡ number_of r = omega (arith, number_small r) in
    ap reason_of low ∙ reason_back r

pub place_of-told : (r : Reason) (at : ℕ) → told (number_of r) at / 256 ≡ at
place_of-told r at = omega (arith, number_small r)

-- a reason's number is a refusal's, and so is that with a place under 1,000,000
pub number_is_refusal : (r : Reason) → IsRefusal (number_of r)
unfolding IsRefusal
number_is_refusal r =
    let low : number_of r % 256 ≡ number_of r = omega (arith, number_small r) in
    (ap number_of (ap reason_of low ∙ reason_back r) ∙ sym low, omega (arith, number_small r))

pub told_is_refusal : (r : Reason) (at : ℕ) → at < 1000000 → IsRefusal (told (number_of r) at)
unfolding IsRefusal
told_is_refusal r at h =
    let low : told (number_of r) at % 256 ≡ number_of r = omega (arith, number_small r) in
    (ap number_of (reason_of-told r at) ∙ sym low, omega (arith, h, place_of-told r at))
