use Rattle.std.specs.Prelude.{◌≡◌}
use Rattle.session_fields.specs.AskedFor.{asked_above}
use Rattle.venue.proofs.LoginLaws.{filled}
use Rattle.venue.proofs.answers.thresholds.Given as goal

abbrev pub invariant-loop-i : goal.invariant-loop-i
invariant-loop-i l = l.t ≡ filled (asked_above l.r) l.i
