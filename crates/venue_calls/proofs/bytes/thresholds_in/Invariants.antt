use Rattle.std.specs.Prelude.{◌≡◌}
use Rattle.venue.proofs.LoginLaws.{filled}
use Rattle.venue_calls.proofs.VenueBytesLaws.{want_in}
use Rattle.venue_calls.proofs.bytes.thresholds_in.Given as goal

abbrev pub invariant-loop-i : goal.invariant-loop-i
invariant-loop-i l = l.t ≡ filled (want_in l.state) l.i
