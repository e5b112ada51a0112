-- `orders::wire_type` meets its contract. Assumes nothing.
use borrow.Author.Tests.{ne_eqb}
use Rattle.orders.proofs.wire_type.Goals as goal

pub returns-then-message-eq184 : goal.returns-then-message-eq184
returns-then-message-eq184 c = rw c.if-message-eq184.true

pub returns : goal.returns
returns c = rw (ne_eqb _ _ c.if-message-eq184.false)
