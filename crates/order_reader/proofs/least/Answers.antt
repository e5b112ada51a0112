-- `order_reader::least` meets its contract. Assumes nothing.
use borrow.Author.Tests.{lt-ltb, le-ltb}
use Rattle.order_reader.proofs.least.Goals as goal

pub returns-then-have-size : goal.returns-then-have-size
returns-then-have-size c = rw (lt-ltb _ _ c.if-have-size.true)

pub returns : goal.returns
returns c = rw (le-ltb _ _ c.if-have-size.false)
