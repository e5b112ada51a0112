-- `session_calls::beside::put` meets its contract. Assumes nothing.
use Rattle.session_calls.proofs.SessionBytesLaws.{beside_put}
use Rattle.session_calls.proofs.beside.put.Goals as goal

pub returns : goal.returns
returns c =
    let a = c.args in
    beside_put a.state.now _ a.phase a.outgoing.0 a.market c.requires c.put_number.ensures c.phase_number.ensures c.market_number.ensures
