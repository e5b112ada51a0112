-- `session_messages::response_end` meets its contract: its bytes are few. Assumes nothing.
use Rattle.std.proofs.Common.{arith}
use Rattle.session_groups.proofs.GroupLaws.{groups_steady, pairs_steady}
use Rattle.session_messages.proofs.Passing.{ends_at}
use Rattle.session_messages.proofs.response_end.Goals as goal

pub overflow_add-result-2 : goal.overflow_add-result-2
overflow_add-result-2 c =
    let p = (pairs_steady c.args.n).inside c.args.s.now _ (ends_at _ c.in_ok-pairs.ensures) in
    let i = (groups_steady _).inside _ _ (ends_at _ c.in_ok-groups.ensures) in
    omega (arith, p.1, i.1)
