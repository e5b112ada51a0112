-- `session::Session::broken` meets its contract. Assumes nothing.
use Rattle.session.proofs.SessionLaws.{stays_closed, breaks}
use mathlib.Core.Path.{sym, ◌∙◌}
use Rattle.session.proofs.Session.broken.Goals as goal

pub returns-then-is_closed : goal.returns-then-is_closed
returns-then-is_closed c =
    let a = c.args in
    stays_closed a.self a.buffer.now (sym c.is_closed.ensures ∙ c.if-is_closed.true)

pub returns : goal.returns
returns c =
    let ended = c in
    let other = ended in
    let a = other.args in
    breaks a.self a.buffer.now (sym other.is_closed.ensures ∙ other.if-is_closed.false) ended.ended.ensures.0 ended.ended.ensures.1
