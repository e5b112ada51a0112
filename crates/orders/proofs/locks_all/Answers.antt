-- `orders::locks_all` meets its contract. Assumes nothing.
use borrow.Author.Tests.{eq-eqb, ne_eqb}
use Rattle.orders.proofs.locks_all.Goals as goal

pub returns-then-third-ne76 : goal.returns-then-third-ne76
returns-then-third-ne76 c = rw (ne_eqb _ _ c.if-third-ne76.true)

pub returns : goal.returns
returns c = rw (eq-eqb _ _ c.if-third-ne76.false)
