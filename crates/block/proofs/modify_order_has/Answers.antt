-- `block::modify_order_has` meets its contract. Assumes nothing.
use mathlib.Core.Path.{sym, ◌∙◌}
use Rattle.block.proofs.modify_order_has.Goals as goal

pub returns-then-is_selected : goal.returns-then-is_selected
returns-then-is_selected c = rw (sym c.is_selected.ensures ∙ c.if-is_selected.true) c.either_selected.ensures

pub returns : goal.returns
returns c = rw (sym c.is_selected.ensures ∙ c.if-is_selected.false)
