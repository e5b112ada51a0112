-- `orders::purge_orders_lacks` meets its contract. Assumes nothing.
use mathlib.Core.Path.{sym, ◌∙◌}
use Rattle.orders.proofs.purge_orders_lacks.Goals as goal

pub returns-then-lacks_firm : goal.returns-then-lacks_firm
returns-then-lacks_firm c = rw (sym c.lacks_firm.ensures ∙ c.if-lacks_firm.true)

pub returns : goal.returns
returns c = rw (sym c.lacks_firm.ensures ∙ c.if-lacks_firm.false) c.lacks_id.ensures
