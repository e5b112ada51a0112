-- `orders::check_modify_late` meets its contract. Assumes nothing.
use Rattle.orders.specs.Shapes.{count_at}
use Rattle.orders.specs.LateBytes.{modify_late}
use Rattle.orders.proofs.Refusing.{tells_at}
use mathlib.Core.Path.{sym, ◌∙◌}
use Rattle.orders.proofs.check_modify_late.Goals as goal

pub returns-then-modify_order_lacks : goal.returns-then-modify_order_lacks
unfolding modify_late count_at
returns-then-modify_order_lacks c = tells_at _ _ c.at.ensures (rw (sym c.modify_order_lacks.ensures ∙ c.if-modify_order_lacks.true))
