-- `wire::is_not_ba` meets its contract. Assumes nothing.
use Rattle.wire.specs.Frame.{not_ba}
use borrow.Author.Tests.{lt-ltb, le-ltb}
use Rattle.wire.proofs.is_not_ba.Goals as goal

pub returns-then-i-s : goal.returns-then-i-s
unfolding not_ba
returns-then-i-s c = rw (lt-ltb _ _ c.if-i-s.true)

pub returns : goal.returns
unfolding not_ba
returns c = rw (le-ltb _ _ c.if-i-s.false)
