-- `kinds::day_agrees` meets its contract: four bytes are judged by the calendar, any others are no day. Assumes nothing.
use mathlib.Core.Path.{sym, ap, ◌∙◌}
use lib.ListN.{length}
use borrow.Author.Tests.{ne_eqb}
use Rattle.calendar.specs.Calendar.{is_day}
use Rattle.kinds.proofs.KindLaws.{day_is}
use Rattle.kinds.proofs.day_agrees.Goals as goal

pub returns-then-n-ne4 : goal.returns-then-n-ne4
returns-then-n-ne4 c =
    let start = c in
    rw (ne_eqb (length start.args.s.now) 4 (λ e. c.if-n-ne4.true (start.requires ∙ e)))

pub returns : goal.returns
returns c =
    let start = c in
    c.is_day.ensures ∙ ap is_day c.read_u32.ensures ∙ sym (day_is start.args.s.now (sym start.requires ∙ c.if-n-ne4.false))
