-- `gateway::boe_peer_silent` meets its contract. Assumes nothing.
use mathlib.Core.Path.{ap, ◌∙◌}
use Rattle.gateway.specs.Desk.{as_number}
use Rattle.gateway.proofs.Numbers.{as_number_lem}
use Rattle.gateway.proofs.boe_peer_silent.Goals as goal

pub returns : goal.returns
returns c = as_number_lem c.peer_silent.result ∙ ap as_number c.peer_silent.ensures
