-- `venue::answers::put_answer` meets its contract. Assumes nothing.
use mathlib.Core.Path.{refl}
use mathlib.Core.List.{◌∷◌}
use native.Mathlib.Omega.{arith}
use Rattle.numbers.proofs.Tail.{puts_then}
use Rattle.venue.specs.Venues.{accepted_text}
use Rattle.venue.specs.VenueStages.{counted_part}
use Rattle.venue.proofs.LoginLaws.{lists_long}
use Rattle.venue.proofs.answers.put_answer.Goals as goal

pub returns : goal.returns
returns c =
    let start = c in
    let a = start.args in
    puts_then a.out.now _ (65 ∷ accepted_text) (counted_part a.flag a.v.received.0 a.v.table a.groups.now) 61 refl (omega (arith, start.requires, lists_long a.v.table a.groups.now)) c.put_status.ensures c.put_counted.ensures
