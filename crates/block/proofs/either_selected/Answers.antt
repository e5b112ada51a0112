-- `block::either_selected` meets its contract. Assumes nothing.
use mathlib.Core.Path.{sym, ◌∙◌}
use Rattle.block.proofs.either_selected.Goals as goal

pub returns-then-is_selected : goal.returns-then-is_selected
returns-then-is_selected c = rw (sym c.is_selected.ensures ∙ c.if-is_selected.true)

pub returns : goal.returns
returns c = rw (sym c.is_selected.ensures ∙ c.if-is_selected.false) c.is_selected-2.ensures
