-- `orders::check_purge_late` meets its contract. Assumes nothing.
use Rattle.orders.specs.Shapes.{count_at}
use Rattle.orders.specs.LateBytes.{purge_late}
use Rattle.orders.proofs.Refusing.{tells_at}
use mathlib.Core.Path.{sym, ◌∙◌}
use Rattle.orders.proofs.check_purge_late.Goals as goal

pub returns-then-purge_orders_lacks : goal.returns-then-purge_orders_lacks
unfolding purge_late count_at
returns-then-purge_orders_lacks c = tells_at _ _ c.at.ensures (rw (sym c.purge_orders_lacks.ensures ∙ c.if-purge_orders_lacks.true))
