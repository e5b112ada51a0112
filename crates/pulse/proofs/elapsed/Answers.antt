-- `pulse::elapsed` meets its contract: a number below 2 ^ 32 that `then` added to wraps back to `now` is the difference, modulo 2 ^ 32.
-- Assumes nothing.
use Rattle.std.proofs.Common.{arith}
use Rattle.pulse.specs.Pulse.{elapsed_of}
use Rattle.pulse.proofs.elapsed.Goals as goal

pub returns : goal.returns
unfolding elapsed_of
returns c = omega arith
