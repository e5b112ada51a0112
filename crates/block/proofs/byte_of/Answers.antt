-- `block::byte_of` meets its contract. Assumes nothing.
use borrow.Author.Tests.{lt-ltb, le-ltb}
use Rattle.block.proofs.byte_of.Goals as goal

pub returns-then-j-count : goal.returns-then-j-count
returns-then-j-count c = rw (lt-ltb _ _ c.if-j-count.true)

pub returns-else-j-count : goal.returns-else-j-count
returns-else-j-count c = rw (le-ltb _ _ c.if-j-count.false)
