-- `kinds::agrees_one` meets its contract. Assumes nothing.
use borrow.Author.Tests.{eq-eqb, ne_eqb}
use Rattle.kinds.proofs.agrees_one.Goals as goal

pub returns-then-b-eq0 : goal.returns-then-b-eq0
returns-then-b-eq0 c = rw (eq-eqb _ _ c.if-b-eq0.true) c.takes_blank.ensures

pub returns : goal.returns
returns c = rw (ne_eqb _ _ c.if-b-eq0.false) c.is_allowed.ensures
