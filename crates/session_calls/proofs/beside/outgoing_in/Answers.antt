-- `session_calls::beside::outgoing_in` meets its contract. Assumes nothing.
use Rattle.session_calls.specs.SessionBytes.{session_of}
use Rattle.session_calls.proofs.beside.outgoing_in.Goals as goal

pub returns : goal.returns
unfolding session_of
returns c = c.read_u32.ensures
