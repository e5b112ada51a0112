-- `orders::purge_orders_conflicts` meets its contract. Assumes nothing.
use mathlib.Core.Path.{sym, ◌∙◌}
use Rattle.orders.proofs.purge_orders_conflicts.Goals as goal

pub returns-then-locks_all : goal.returns-then-locks_all
returns-then-locks_all c = rw (sym c.locks_all.ensures ∙ c.if-locks_all.true)

pub returns : goal.returns
returns c = rw (sym c.locks_all.ensures ∙ c.if-locks_all.false) c.symbol_and_unit.ensures
