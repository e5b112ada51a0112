use Rattle.session_groups.specs.Groups.{units_from}
use Rattle.std.proofs.Common.{◌≡◌, ◌-◌, length, replicate}
use Rattle.session_groups.proofs.units_good.Given as goal

abbrev pub invariant-loop-i : goal.invariant-loop-i
invariant-loop-i l = (length l.marks ≡ 33) × (units_from (l.n - l.i) l.i l.s l.marks ≡ units_from l.n 0 l.s (replicate 33 0))
