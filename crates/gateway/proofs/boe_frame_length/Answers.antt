-- `gateway::boe_frame_length` meets its contract. Assumes nothing.
use lib.ListN.{length}
use mathlib.Core.Path.{ap}
use Rattle.gateway.proofs.boe_frame_length.Goals as goal

pub returns : goal.returns
returns c = ap length c.frame-m.ensures
