-- `session_logins::write_login` meets its contract. Assumes nothing.
use mathlib.Core.Path.{ap, ◌∙◌}
use lib.ListN.{length}
use Rattle.refusals.specs.Outcomes.{outcome}
use Rattle.session_messages.specs.Sessions.{record_refusal, record_buffer}
use Rattle.session_messages.specs.declared.Record.{Record}
use Rattle.session_logins.proofs.write_login.Goals as goal

pub returns : goal.returns
returns c =
    let a = c.args in
    let e = c.write_session.ensures in
    let q = c.login_record.ensures in
    (e.0 ∙ ap (λ (r : Record). outcome (record_refusal r (length a.out.now))) q, e.1 ∙ ap (λ (r : Record). record_buffer r a.out.now) q)
