-- `orders::of_venue` meets its contract. Assumes nothing.
use mathlib.Core.Path.{sym, ◌∙◌}
use Rattle.orders.proofs.of_venue.Goals as goal

pub returns-then-is_sequenced : goal.returns-then-is_sequenced
returns-then-is_sequenced c = rw (sym c.is_sequenced.ensures ∙ c.if-is_sequenced.true)

pub returns : goal.returns
returns c = rw (sym c.is_sequenced.ensures ∙ c.if-is_sequenced.false) c.is_unsequenced.ensures
