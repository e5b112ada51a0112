-- `pulse::heartbeat_due` meets its contract: its test is the definition's, on what `elapsed` ensures.
-- Assumes nothing.
use Rattle.std.proofs.Common.{leb, ap}
use Rattle.pulse.specs.Pulse.{heartbeat_due}
use Rattle.pulse.proofs.heartbeat_due.Goals as goal

pub returns : goal.returns
unfolding heartbeat_due
returns c = ap (leb 1000) c.elapsed.ensures
