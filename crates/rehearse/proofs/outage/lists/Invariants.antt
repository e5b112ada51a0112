use Rattle.std.proofs.Common.{◌-◌, ◌≤◌, length}
use Rattle.rehearse.proofs.outage.lists.Given as goal

abbrev pub invariant-loop-at : goal.invariant-loop-at
invariant-loop-at g l = l.place ≤ length l.part

abbrev pub decreases-loop-at : goal.decreases-loop-at
decreases-loop-at g l = length l.part - l.place
