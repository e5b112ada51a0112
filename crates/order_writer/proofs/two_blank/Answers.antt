-- `order_writer::two_blank` meets its contract. Assumes nothing.
use mathlib.Core.Path.{sym, ◌∙◌}
use Rattle.order_writer.proofs.two_blank.Goals as goal

pub returns-then-not-is_blank : goal.returns-then-not-is_blank
returns-then-not-is_blank c = rw (sym c.is_blank.ensures ∙ c.if-not-is_blank.true)

pub returns : goal.returns
returns c = rw (sym c.is_blank.ensures ∙ c.if-not-is_blank.false) c.is_blank-2.ensures
