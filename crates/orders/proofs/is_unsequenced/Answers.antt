-- `orders::is_unsequenced` meets its contract. Assumes nothing.
use borrow.Author.Tests.{ne_eqb}
use Rattle.orders.proofs.is_unsequenced.Goals as goal

pub returns-in-38 : goal.returns-in-38
returns-in-38 c = rw c.in-38.is

pub returns-in-41 : goal.returns-in-41
returns-in-41 c = rw c.in-41.is

pub returns-in-43 : goal.returns-in-43
returns-in-43 c = rw c.in-43.is

pub returns-in_default : goal.returns-in_default
returns-in_default c = simp (ne_eqb _ _ c.in_default.in_default-own.rest.1, ne_eqb _ _ c.in_default.in_default-own.rest.0.1, ne_eqb _ _ c.in_default.in_default-own.rest.0.0.1)
