-- `block::is_selected` meets its contract. Assumes nothing.
use Rattle.block.specs.Places.{selected_at}
use borrow.Author.Tests.{lt-ltb, le-ltb}
use Rattle.block.proofs.is_selected.Goals as goal

pub returns-then-j-count : goal.returns-then-j-count
unfolding selected_at
returns-then-j-count c = rw (lt-ltb _ _ c.if-j-count.true)

pub returns : goal.returns
unfolding selected_at
returns c = rw (le-ltb _ _ c.if-j-count.false)
