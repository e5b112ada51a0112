-- `session::Session::responded` meets its contract. Assumes nothing.
use Rattle.session.proofs.SessionLaws.{allowed, denied}
use Rattle.session.proofs.Session.responded.Goals as goal

pub returns-then-status-eq65 : goal.returns-then-status-eq65
returns-then-status-eq65 c =
    let a = c.args in
    allowed a.self a.status a.received.0 a.buffer.now c.if-status-eq65.true

pub returns : goal.returns
returns c =
    let ended = c in
    let other = ended in
    let a = other.args in
    denied a.self a.status a.received.0 a.buffer.now other.if-status-eq65.false ended.ended.ensures.0 ended.ended.ensures.1
