-- `block::first_of` meets its contract. Assumes nothing.
use borrow.Author.Tests.{eq-eqb, ne_eqb}
use Rattle.block.proofs.first_of.Goals as goal

pub returns-then-found-eq0 : goal.returns-then-found-eq0
returns-then-found-eq0 c = rw (eq-eqb _ _ c.if-found-eq0.true)

pub returns : goal.returns
returns c = rw (ne_eqb _ _ c.if-found-eq0.false)
