-- `kinds::is_within` meets its contract: `&&` of the code is `◌&&◌` of the definition, by the cases of its first test.
-- Assumes nothing.
use borrow.Author.Tests.{le-leb, lt-leb}
use Rattle.kinds.proofs.is_within.Goals as goal

pub returns-then-low-b : goal.returns-then-low-b
returns-then-low-b c = rw (le-leb _ _ c.if-low-b.true)

pub returns-else-low-b : goal.returns-else-low-b
returns-else-low-b c = rw (lt-leb _ _ c.if-low-b.false)
