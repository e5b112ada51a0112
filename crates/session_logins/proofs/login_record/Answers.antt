-- `session_logins::login_record` meets its contract: the bytes put into zeros. Assumes nothing.
use mathlib.Core.Path.{ap, ◌∙◌}
use Prim.Native.Nat.{ℕ}
use mathlib.Core.List.{List}
use Rattle.session_logins.specs.LoginRequests.{said_of, padded, login_record}
use Rattle.session_logins.specs.declared.Choice.{Choice}
use Rattle.session_logins.proofs.Parts.{padded_is}
use Rattle.session_logins.proofs.login_record.Goals as goal

pub returns : goal.returns
unfolding login_record
returns c =
    let a = c.args in
    let p = c.put_body.ensures ∙ padded_is (said_of a.table c.choice_of-resolved.result a.names a.acknowledgments a.executions) ∙ ap (λ (x : Choice). padded (said_of a.table x a.names a.acknowledgments a.executions)) c.choice_of-resolved.ensures in
    ap (λ (l : List ℕ). record { message = 0x37; unit = 0; number = 0; body = l }) p
