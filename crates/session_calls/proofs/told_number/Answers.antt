-- `session_calls::told_number` meets its contract. Assumes nothing.
use mathlib.Core.Path.{sym, ap, ◌∙◌}
use Rattle.session_calls.specs.SessionBytes.{told_number}
use Rattle.session_calls.proofs.told_number.Goals as goal

pub returns-in-Nothing : goal.returns-in-Nothing
returns-in-Nothing c = ap told_number (sym c.in-Nothing.is ∙ c.told_of-told.ensures)

pub returns-in-Booked : goal.returns-in-Booked
returns-in-Booked c = ap told_number (sym c.in-Booked.is ∙ c.told_of-told.ensures)

pub returns-in-Handed : goal.returns-in-Handed
returns-in-Handed c = ap told_number (sym c.in-Handed.is ∙ c.told_of-told.ensures)
