-- `session_calls::end` meets its contract. Assumes nothing.
use Rattle.std.proofs.Common.{length}
use Rattle.session_calls.proofs.SessionBytesLaws.{ended-there, closed_buffer}
use Rattle.session_calls.proofs.end.Goals as goal

pub returns : goal.returns
returns c =
    let a = c.args in
    let closed = c.close.ensures in (
      closed_buffer a.state.now a.buffer.now c.requires closed.1,
      ended-there a.state.now (length a.buffer.now) c.requires c.outgoing_in-outgoing.ensures c.market_in-market.ensures closed.2 c.put.ensures,
    )
