-- The loop keeps that the scan from the pair reached answers what the scan over all does. Assumes nothing.
use mathlib.Core.Path.{◌≡◌}
use Prim.Native.Nat.{◌-◌}
use Rattle.session_fields.specs.SessionFields.{listed_from}
use Rattle.session_fields.proofs.find_listed.Given as goal

abbrev pub invariant-loop-i : goal.invariant-loop-i
invariant-loop-i l = listed_from (l.n - l.i) l.unit l.i l.at l.s ≡ listed_from l.n l.unit 0 l.at l.s
