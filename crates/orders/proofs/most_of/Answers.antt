-- `orders::most_of` meets its contract. Assumes nothing.
use Rattle.orders.specs.Shapes.{most_of}
use borrow.Author.Tests.{ne_eqb}
use Rattle.dictionary.proofs.NewOrders.{a-new_order, no_new_order}
use Rattle.orders.proofs.most_of.Goals as goal

pub returns-in-56 : goal.returns-in-56
unfolding most_of
returns-in-56 c = rw (a-new_order _ c.in-56.is)

pub returns-in-57 : goal.returns-in-57
unfolding most_of
returns-in-57 c = rw c.in-57.is

pub returns-in-37 : goal.returns-in-37
unfolding most_of
returns-in-37 c = rw c.in-37.is

pub returns-in-44 : goal.returns-in-44
unfolding most_of
returns-in-44 c = rw c.in-44.is

pub returns-in-58 : goal.returns-in-58
unfolding most_of
returns-in-58 c = rw c.in-58.is

pub returns-in-71 : goal.returns-in-71
unfolding most_of
returns-in-71 c = rw c.in-71.is

pub returns-in_default : goal.returns-in_default
unfolding most_of
returns-in_default c = simp (ne_eqb _ _ c.in_default.in_default-own.rest.1, ne_eqb _ _ c.in_default.in_default-own.rest.0.1, ne_eqb _ _ c.in_default.in_default-own.rest.0.0.1, ne_eqb _ _ c.in_default.in_default-own.rest.0.0.0.1, ne_eqb _ _ c.in_default.in_default-own.rest.0.0.0.0.1, no_new_order _ c.in_default.in_default-own.rest.0.0.0.0.0.1)
