-- `orders::is_known` meets its contract. Assumes nothing.
use mathlib.Core.Path.{sym, ◌∙◌}
use Rattle.orders.proofs.is_known.Goals as goal

pub returns-then-of_member : goal.returns-then-of_member
returns-then-of_member c = rw (sym c.of_member.ensures ∙ c.if-of_member.true)

pub returns : goal.returns
returns c = rw (sym c.of_member.ensures ∙ c.if-of_member.false) c.of_venue.ensures
