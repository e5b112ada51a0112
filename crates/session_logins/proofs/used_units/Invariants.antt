use Rattle.session_logins.proofs.Used.{Sofar}
use Rattle.session_logins.proofs.used_units.Given as goal

abbrev pub invariant-loop-i : goal.invariant-loop-i
invariant-loop-i l = Sofar l.table l.i l.units l.count
