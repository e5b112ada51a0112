-- `block::worse` meets its contract. Assumes nothing.
use mathlib.Core.Path.{◌∙◌}
use Rattle.block.proofs.worse.Goals as goal

pub returns-then-agree : goal.returns-then-agree
returns-then-agree c = rw c.if-agree.true

pub returns : goal.returns
returns c = c.first_of.ensures ∙ rw c.if-agree.false
