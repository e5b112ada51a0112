-- `orders::of_member` meets its contract. Assumes nothing.
use borrow.Author.Tests.{ne_eqb}
use Rattle.dictionary.proofs.NewOrders.{a-new_order, no_new_order}
use Rattle.orders.proofs.of_member.Goals as goal

pub returns-in-56 : goal.returns-in-56
returns-in-56 c = rw (a-new_order _ c.in-56.is)

pub returns-in-57 : goal.returns-in-57
returns-in-57 c = rw c.in-57.is

pub returns-in-58 : goal.returns-in-58
returns-in-58 c = rw c.in-58.is

pub returns-in-71 : goal.returns-in-71
returns-in-71 c = rw c.in-71.is

pub returns-in_default : goal.returns-in_default
returns-in_default c = simp (ne_eqb _ _ c.in_default.in_default-own.rest.1, ne_eqb _ _ c.in_default.in_default-own.rest.0.1, ne_eqb _ _ c.in_default.in_default-own.rest.0.0.1, no_new_order _ c.in_default.in_default-own.rest.0.0.0.1)
