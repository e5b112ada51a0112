-- `calendar::is_leap` meets its contract: each return knows the remainders that the definition tests.
-- Assumes nothing.
use Prim.Native.Nat.{◌%◌}
use native.Mathlib.Omega.{arith}
use borrow.Author.Tests.{eq-eqb, ne_eqb}
use Rattle.calendar.specs.Calendar.{leap}
use Rattle.calendar.proofs.is_leap.Goals as goal

pub returns-then-year-eq0 : goal.returns-then-year-eq0
unfolding leap
returns-then-year-eq0 c = rw (eq-eqb (c.args.year % 400) 0 (omega arith))

pub returns-then-year-eq0-2 : goal.returns-then-year-eq0-2
unfolding leap
returns-then-year-eq0-2 c =
    let year = c.args.year in
    rw (ne_eqb (year % 400) 0 (λ e. omega arith), eq-eqb (year % 100) 0 (omega arith))

pub returns : goal.returns
unfolding leap
returns c =
    let year = c.args.year in
    rw (ne_eqb (year % 400) 0 (λ e. omega arith), ne_eqb (year % 100) 0 (λ e. omega arith))
