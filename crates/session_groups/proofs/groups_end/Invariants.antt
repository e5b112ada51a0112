use Rattle.session_groups.proofs.Walk.{Going}
use Rattle.session_groups.proofs.groups_end.Given as goal

abbrev pub invariant-loop : goal.invariant-loop
invariant-loop l = Going l.count l.s l.marks l.at l.counter
