-- `session_logins::put_group_head` meets its contract. Assumes nothing.
use Rattle.session_logins.proofs.Parts.{head_put}
use Rattle.session_logins.proofs.put_group_head.Goals as goal

pub returns : goal.returns
returns c =
    let a = c.args in
    head_put a.tail.now _ a.size a.kind a.x a.count c.requires c.write_u16.ensures.1
