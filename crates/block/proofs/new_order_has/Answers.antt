-- `block::new_order_has` meets its contract. Assumes nothing.
use mathlib.Core.Path.{sym, ◌∙◌}
use Rattle.block.proofs.new_order_has.Goals as goal

pub returns-then-is_selected-2 : goal.returns-then-is_selected-2
returns-then-is_selected-2 c =
    let second = c in
    let first = second in
    rw (sym first.is_selected.ensures ∙ second.if-is_selected.true, sym second.is_selected-then-is_selected.ensures ∙ c.if-is_selected-2.true) c.either_selected.ensures

pub returns-else-is_selected-2 : goal.returns-else-is_selected-2
returns-else-is_selected-2 c =
    let second = c in
    let first = second in
    rw (sym first.is_selected.ensures ∙ second.if-is_selected.true, sym second.is_selected-then-is_selected.ensures ∙ c.if-is_selected-2.false)

pub returns-else-is_selected : goal.returns-else-is_selected
returns-else-is_selected c = rw (sym c.is_selected.ensures ∙ c.if-is_selected.false)
