-- `venue::answers::put_lists` meets its contract. Assumes nothing.
use Rattle.numbers.proofs.Tail.{puts_then}
use Rattle.session_groups.specs.Values.{pairs_bytes}
use Rattle.session_logins.specs.LoginRequests.{up_from, pairs_for}
use Rattle.session_logins.proofs.LoginRequestLaws.{pairs_size}
use Rattle.venue.proofs.answers.put_lists.Goals as goal

pub returns : goal.returns
returns c =
    let start = c in
    let a = start.args in
    puts_then a.tail.now _ (pairs_bytes (pairs_for a.table (up_from 32 1))) a.groups.now 160 (pairs_size a.table (up_from 32 1)) start.requires c.put_pairs.ensures c.copy.ensures
