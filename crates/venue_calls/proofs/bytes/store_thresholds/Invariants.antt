use Rattle.std.specs.Prelude.{◌≡◌, length}
use Rattle.numbers.specs.Numbers.{patched}
use Rattle.venue_calls.specs.VenueBytes.{thresholds_at, wants_bytes}
use Rattle.venue_calls.proofs.bytes.store_thresholds.Given as goal

abbrev pub invariant-loop-i : goal.invariant-loop-i
invariant-loop-i l = (length l.state ≡ length l.initial.state) × (l.state ≡ patched l.initial.state thresholds_at (wants_bytes l.i 0 l.t.numbers))
