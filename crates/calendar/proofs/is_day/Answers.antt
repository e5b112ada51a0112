-- `calendar::is_day` meets its contract: each early return knows one of the definition's tests to fail, and the last knows all but one to hold and
-- returns that one. Assumes nothing.
use mathlib.Core.Bool.{and-false}
use native.Mathlib.Omega.{arith}
use borrow.Author.Tests.{le-leb, lt-leb}
use Rattle.calendar.specs.Calendar.{year_of, month_of, day_of, is_day}
use Rattle.calendar.proofs.is_day.Goals as goal

pub returns-then-year-lt1970 : goal.returns-then-year-lt1970
unfolding is_day
returns-then-year-lt1970 c =
    let n = c.args.date in
    simp (lt-leb 1970 (year_of n) (omega arith))

pub returns-then-year-gt2099 : goal.returns-then-year-gt2099
unfolding is_day
returns-then-year-gt2099 c =
    let n = c.args.date in
    simp (lt-leb (year_of n) 2099 (omega arith), and-false)

pub returns-then-month-lt1 : goal.returns-then-month-lt1
unfolding is_day
returns-then-month-lt1 c =
    let n = c.args.date in
    simp (lt-leb 1 (month_of n) (omega arith), and-false)

pub returns-then-month-gt12 : goal.returns-then-month-gt12
unfolding is_day
returns-then-month-gt12 c =
    let n = c.args.date in
    simp (lt-leb (month_of n) 12 (omega arith), and-false)

pub returns-then-day-lt1 : goal.returns-then-day-lt1
unfolding is_day
returns-then-day-lt1 c =
    let n = c.args.date in
    simp (lt-leb 1 (day_of n) (omega arith), and-false)

pub returns : goal.returns
unfolding is_day
returns c =
    let n = c.args.date in
    simp (
      le-leb 1970 (year_of n) (omega arith),
      le-leb (year_of n) 2099 (omega arith),
      le-leb 1 (month_of n) (omega arith),
      le-leb (month_of n) 12 (omega arith),
      le-leb 1 (day_of n) (omega arith),
      c.days_in.ensures,
    )
