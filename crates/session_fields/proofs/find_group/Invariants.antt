use Prim.Native.Nat.{◌-◌}
use Rattle.session_fields.proofs.Scan.{Seeking}
use Rattle.session_fields.proofs.find_group.Given as goal

abbrev pub invariant-loop : goal.invariant-loop
invariant-loop l = Seeking l.n l.t l.x l.from l.s (l.n - l.counter) l.at
