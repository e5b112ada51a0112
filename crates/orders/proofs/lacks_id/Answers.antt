-- `orders::lacks_id` meets its contract. Assumes nothing.
use mathlib.Core.Path.{sym, ap, ◌∙◌}
use mathlib.Core.Bool.{not}
use Rattle.orders.proofs.lacks_id.Goals as goal

pub returns-then-not-asks_for_one : goal.returns-then-not-asks_for_one
returns-then-not-asks_for_one c = rw (sym c.asks_for_one.ensures ∙ c.if-not-asks_for_one.true)

pub returns : goal.returns
returns c = rw (sym c.asks_for_one.ensures ∙ c.if-not-asks_for_one.false) (ap not c.is_selected.ensures)
