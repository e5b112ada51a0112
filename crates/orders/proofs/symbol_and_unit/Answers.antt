-- `orders::symbol_and_unit` meets its contract. Assumes nothing.
use mathlib.Core.Path.{sym, ◌∙◌}
use Rattle.orders.proofs.symbol_and_unit.Goals as goal

pub returns-then-not-is_selected : goal.returns-then-not-is_selected
returns-then-not-is_selected c = rw (sym c.is_selected.ensures ∙ c.if-not-is_selected.true)

pub returns-then-not-is_selected-2 : goal.returns-then-not-is_selected-2
returns-then-not-is_selected-2 c = rw (sym c.is_selected.ensures ∙ c.if-not-is_selected.false, sym c.is_selected-2.ensures ∙ c.if-not-is_selected-2.true)

pub returns : goal.returns
returns c = rw (sym c.is_selected.ensures ∙ c.if-not-is_selected.false, sym c.is_selected-2.ensures ∙ c.if-not-is_selected-2.false)
