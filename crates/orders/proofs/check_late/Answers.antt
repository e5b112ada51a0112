-- `orders::check_late` meets its contract. Assumes nothing.
use Rattle.orders.specs.LateBytes.{modify_late_is, purge_late_is, never_late}
use Rattle.orders.proofs.Refusing.{tells_none}
use Rattle.refusals.specs.Outcomes.{outcome}
use mathlib.Core.Path.{sym, ap, ◌∙◌}
use Rattle.orders.proofs.check_late.Goals as goal

pub returns-in-58 : goal.returns-in-58
returns-in-58 c = rw c.in-58.is (c.check_modify_late.ensures ∙ ap outcome (sym (modify_late_is _ _ _)))

pub returns-in-71 : goal.returns-in-71
returns-in-71 c = rw c.in-71.is (c.check_purge_late.ensures ∙ ap outcome (sym (purge_late_is _ _ _)))

pub returns-in_default : goal.returns-in_default
returns-in_default c = tells_none (never_late _ _ _ _ c.in_default.in_default-own.rest.0.1 c.in_default.in_default-own.rest.1)
