-- `messages::type_in` meets its contract. Assumes nothing.
use borrow.Author.Tests.{eq-eqb, ne_eqb}
use Rattle.messages.proofs.type_in.Goals as goal

pub returns-then-direction-ne2 : goal.returns-then-direction-ne2
returns-then-direction-ne2 c = rw (ne_eqb _ _ c.if-direction-ne2.true)

pub returns : goal.returns
returns c = rw (eq-eqb _ _ c.if-direction-ne2.false) c.record_type.ensures
