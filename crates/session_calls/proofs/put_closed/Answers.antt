-- `session_calls::put_closed` meets its contract. Assumes nothing.
use Rattle.std.proofs.Common.{ap, ◌∙◌}
use Rattle.numbers.specs.Numbers.{patched}
use Rattle.orders.specs.declared.Market.{Market}
use Rattle.session.specs.declared.Phase.TheVariants.{Closed}
use Rattle.session_calls.specs.SessionBytes.{outgoing_at, beside_bytes}
use Rattle.session_calls.proofs.put_closed.Goals as goal

pub returns : goal.returns
returns c = c.put.ensures ∙ ap (λ (m : Market). patched c.args.state.now outgoing_at (beside_bytes Closed 0 m)) c.market_of-m.ensures
