-- `pulse::peer_silent` meets its contract: its test is the definition's, on what `elapsed` ensures.
-- Assumes nothing.
use Rattle.std.proofs.Common.{leb, ap}
use Rattle.pulse.specs.Pulse.{peer_silent}
use Rattle.pulse.proofs.peer_silent.Goals as goal

pub returns : goal.returns
unfolding peer_silent
returns c = ap (leb 5000) c.elapsed.ensures
