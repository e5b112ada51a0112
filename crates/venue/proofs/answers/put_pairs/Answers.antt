-- `venue::answers::put_pairs` meets its contract. Assumes nothing.
use mathlib.Core.Path.{ap, ◌∙◌}
use lib.ListN.{take}
use Rattle.numbers.specs.Numbers.{patched}
use Rattle.session_groups.specs.Values.{pairs_bytes}
use Rattle.session_logins.specs.LoginRequests.{numbers_of, pairs_for}
use Rattle.session_logins.specs.declared.Choice.{Choice}
use Rattle.venue.proofs.answers.put_pairs.Goals as goal

pub all_units-all-requires : goal.all_units-all-requires
all_units-all-requires c = tt

pub returns : goal.returns
returns c =
    let put = c in
    let a = put.args in
    put.put_pairs.ensures
    ∙ ap (λ (x : Choice). patched a.tail.now 0 (pairs_bytes (pairs_for a.table (take 32 (numbers_of x.units))))) put.all_units-all.ensures
