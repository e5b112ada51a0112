-- `orders::lacks_firm` meets its contract. Assumes nothing.
use mathlib.Core.Path.{ap}
use mathlib.Core.Bool.{not}
use borrow.Author.Tests.{eq-eqb, ne_eqb}
use Rattle.orders.proofs.lacks_firm.Goals as goal

pub returns-then-first-ne70 : goal.returns-then-first-ne70
returns-then-first-ne70 c = rw (ne_eqb _ _ c.if-first-ne70.true)

pub returns : goal.returns
returns c = rw (eq-eqb _ _ c.if-first-ne70.false) (ap not c.is_selected.ensures)
