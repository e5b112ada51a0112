-- The calendar days of 1970 to 2099, as YYYYMMDD. Definitions alone. Assumes nothing.
use Rattle.std.specs.Prelude.{ℕ, ◌/◌, ◌%◌, Bool, cond, not, ◌&&◌, ◌||◌, leb, eqb}
use Rattle.refusals.specs.Names.{not_a_day}

-- every fourth year, of the hundreds only every fourth
unfoldable pub leap : ℕ → Bool
leap y = eqb (y % 400) 0 || (not (eqb (y % 100) 0) && eqb (y % 4) 0)

-- thirty days in April, June, September and November, 28 or 29 in February, and 31 in the others
unfoldable pub days_in : ℕ → ℕ → ℕ
days_in y m =
    cond (eqb m 2) (cond (leap y) 29 28)
    (cond (eqb m 4 || (eqb m 6 || (eqb m 9 || eqb m 11))) 30
    31)

-- the year of a number YYYYMMDD
abbrev pub year_of : ℕ → ℕ
year_of n = n / 10000

-- its month
abbrev pub month_of : ℕ → ℕ
month_of n = n / 100 % 100

-- its day of the month
abbrev pub day_of : ℕ → ℕ
day_of n = n % 100

-- a day of 1970 to 2099: its year is one of these, its month from 1 to 12, and its day one that the month has
unfoldable pub is_day : ℕ → Bool
is_day n =
    leb 1970 (year_of n) && (leb (year_of n) 2099
    && (leb 1 (month_of n) && (leb (month_of n) 12
    && (leb 1 (day_of n) && leb (day_of n) (days_in (year_of n) (month_of n))))))

-- 01, Numbers of refusal: 19 for what is not a calendar day of 1970 to 2099
unfoldable pub day_refusal : ℕ → ℕ
day_refusal n = cond (is_day n) 0 not_a_day
