-- `session_calls::beside::phase_in` meets its contract. Assumes nothing.
use mathlib.Core.Path.{ap, ◌∙◌}
use Rattle.session_calls.specs.SessionBytes.{phase_of, session_of}
use Rattle.session_calls.proofs.beside.phase_in.Goals as goal

pub returns : goal.returns
unfolding session_of
returns c = c.phase_of.ensures ∙ ap phase_of c.byte_at.ensures
