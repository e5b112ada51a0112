-- `gateway::boe_heartbeat_due` meets its contract. Assumes nothing.
use mathlib.Core.Path.{ap, ◌∙◌}
use Rattle.gateway.specs.Desk.{as_number}
use Rattle.gateway.proofs.Numbers.{as_number_lem}
use Rattle.gateway.proofs.boe_heartbeat_due.Goals as goal

pub returns : goal.returns
returns c = as_number_lem c.heartbeat_due.result ∙ ap as_number c.heartbeat_due.ensures
