-- `wire::starts_bad` meets its contract. Assumes nothing.
use Rattle.wire.specs.Frame.{starts_bad}
use mathlib.Core.Path.{sym, ◌∙◌}
use Rattle.wire.proofs.starts_bad.Goals as goal

pub returns-then-is_not_ba : goal.returns-then-is_not_ba
unfolding starts_bad
returns-then-is_not_ba c = rw (sym c.is_not_ba.ensures ∙ c.if-is_not_ba.true)

pub returns : goal.returns
unfolding starts_bad
returns c = rw (sym c.is_not_ba.ensures ∙ c.if-is_not_ba.false) c.is_not_ba-2.ensures
