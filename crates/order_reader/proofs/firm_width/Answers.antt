-- `order_reader::firm_width` meets its contract. Assumes nothing.
use mathlib.Core.Path.{sym, ◌∙◌}
use Rattle.order_reader.proofs.firm_width.Goals as goal

pub returns-then-is_selected : goal.returns-then-is_selected
returns-then-is_selected c = rw (sym c.is_selected.ensures ∙ c.if-is_selected.true)

pub returns : goal.returns
returns c = rw (sym c.is_selected.ensures ∙ c.if-is_selected.false)
