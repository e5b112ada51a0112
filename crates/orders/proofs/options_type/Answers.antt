-- `orders::options_type` meets its contract. Assumes nothing.
use borrow.Author.Tests.{ne_eqb}
use Rattle.orders.proofs.options_type.Goals as goal

pub returns-in-56 : goal.returns-in-56
returns-in-56 c = rw c.in-56.is

pub returns-in-184 : goal.returns-in-184
returns-in-184 c = rw c.in-184.is

pub returns-in_default : goal.returns-in_default
returns-in_default c = simp (ne_eqb _ _ c.in_default.in_default-own.rest.1, ne_eqb _ _ c.in_default.in_default-own.rest.0.1)
