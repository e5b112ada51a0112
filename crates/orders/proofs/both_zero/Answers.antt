-- `orders::both_zero` meets its contract. Assumes nothing.
use borrow.Author.Tests.{eq-eqb, ne_eqb}
use Rattle.orders.proofs.both_zero.Goals as goal

pub returns-then-unit-eq0 : goal.returns-then-unit-eq0
returns-then-unit-eq0 c = rw (eq-eqb _ _ c.if-unit-eq0.true)

pub returns : goal.returns
returns c = rw (ne_eqb _ _ c.if-unit-eq0.false)
