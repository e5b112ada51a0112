-- `session_calls::beside::market_in` meets its contract. Assumes nothing.
use mathlib.Core.Path.{ap, ◌∙◌}
use Rattle.orders.specs.Markets.{market_of}
use Rattle.session_calls.specs.SessionBytes.{session_of}
use Rattle.session_calls.proofs.beside.market_in.Goals as goal

pub returns : goal.returns
unfolding session_of
returns c = c.market_of.ensures ∙ ap market_of c.byte_at.ensures
