-- `orders::asks_for_one` meets its contract. Assumes nothing.
use borrow.Author.Tests.{eq-eqb, ne_eqb}
use Rattle.orders.proofs.asks_for_one.Goals as goal

pub returns-then-style-eq83 : goal.returns-then-style-eq83
returns-then-style-eq83 c = rw (eq-eqb _ _ c.if-style-eq83.true)

pub returns : goal.returns
returns c = rw (ne_eqb _ _ c.if-style-eq83.false)
