-- `session_messages::body_end` meets its contract: its bytes are few. Assumes nothing.
use Rattle.std.proofs.Common.{arith}
use Rattle.session_messages.specs.Types.{type_byte}
use Rattle.session_messages.proofs.Passing.{ends_at}
use Rattle.session_messages.proofs.SessionLaws.{fixed_small, lists-steady}
use Rattle.session_messages.proofs.body_end.Goals as goal

pub overflow_add-result : goal.overflow_add-result
overflow_add-result c =
    let e = ends_at _ c.in_ok-lists.ensures in
    let i = (lists-steady (type_byte c.args.message) _).inside _ _ e in
    omega (arith, c.fixed_size-k.ensures, fixed_small (type_byte c.args.message), i.1)
