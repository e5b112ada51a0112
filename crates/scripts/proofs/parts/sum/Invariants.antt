-- No number is above 32 bits.
use Rattle.std.proofs.Common.{◌*◌, ◌≤◌}
use Rattle.scripts.proofs.parts.sum.Given as goal

abbrev pub invariant-loop-u : goal.invariant-loop-u
invariant-loop-u g l = l.total ≤ 4294967295 * l.u
