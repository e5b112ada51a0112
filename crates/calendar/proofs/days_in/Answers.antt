-- `calendar::days_in` meets its contract: in each arm it is known which of the definition's months the month is, or that it is none of them.
-- Assumes nothing.
use mathlib.Core.Path.{sym, ◌∙◌}
use mathlib.Core.Logic.{inl, inr, ⊎_elim}
use borrow.Author.Tests.{ne_eqb}
use Rattle.calendar.specs.Calendar.{days_in}
use Rattle.calendar.proofs.days_in.Goals as goal

pub returns-then-is_leap : goal.returns-then-is_leap
unfolding days_in
returns-then-is_leap c = rw (c.in-2.is, sym c.is_leap.ensures ∙ c.if-is_leap.true)

pub returns-else-is_leap : goal.returns-else-is_leap
unfolding days_in
returns-else-is_leap c = rw (c.in-2.is, sym c.is_leap.ensures ∙ c.if-is_leap.false)

pub returns-in-4 : goal.returns-in-4
unfolding days_in
returns-in-4 c = ⊎_elim (λ e. rw e) (⊎_elim (λ e. rw e) (⊎_elim (λ e. rw e) (λ e. rw e))) c.in-4.is

pub returns-in_default : goal.returns-in_default
unfolding days_in
returns-in_default c =
    let month = c.args.month in
    let none = c.in_default.in_default-own.rest.1 in
    simp (
      ne_eqb month 2 c.in_default.in_default-own.rest.0.1,
      ne_eqb month 4 (λ e. none (inl e)),
      ne_eqb month 6 (λ e. none (inr (inl e))),
      ne_eqb month 9 (λ e. none (inr (inr (inl e)))),
      ne_eqb month 11 (λ e. none (inr (inr (inr e)))),
    )
