-- `block::has_required` meets its contract: an arm a message. Assumes nothing.
use Rattle.dictionary.proofs.NewOrders.{a-new_order, no_new_order}
use Rattle.block.specs.Places.{has_required}
use borrow.Author.Tests.{ne_eqb}
use Rattle.block.proofs.has_required.Goals as goal

pub returns-in-56 : goal.returns-in-56
unfolding has_required
returns-in-56 c = rw (a-new_order _ c.in-56.is) c.new_order_has.ensures

pub returns-in-58 : goal.returns-in-58
unfolding has_required
returns-in-58 c = rw c.in-58.is c.modify_order_has.ensures

pub returns-in-71 : goal.returns-in-71
unfolding has_required
returns-in-71 c = rw c.in-71.is c.is_selected.ensures

pub returns-in_default : goal.returns-in_default
unfolding has_required
returns-in_default c = simp (ne_eqb _ _ c.in_default.in_default-own.rest.1, ne_eqb _ _ c.in_default.in_default-own.rest.0.1, no_new_order _ c.in_default.in_default-own.rest.0.0.1)
