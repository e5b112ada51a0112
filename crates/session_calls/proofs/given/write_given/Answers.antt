-- `session_calls::given::write_given` meets its contract. Assumes nothing.
use Rattle.std.proofs.Common.{refl, ap, ◌∙◌, length}
use Rattle.refusals.specs.Outcomes.{outcome}
use Rattle.session_messages.specs.declared.Record.{Record}
use Rattle.session_messages.specs.Sessions.{record_refusal, record_buffer}
use Rattle.session_calls.specs.LoginBytesLaws.{names_are, record_is}
use Rattle.session_calls.proofs.given.write_given.Goals as goal

pub returns : goal.returns
returns c =
    let a = c.args in
    let w = c.write_login.ensures in
    let e = record_is a.given.now c.table_in-table.ensures c.choice_in-choice.ensures (names_are a.given.now _ refl c.requires c.copy.ensures) c.bits_in-acknowledgments.ensures c.bits_in-executions.ensures in
    (w.0 ∙ ap (λ (r : Record). outcome (record_refusal r (length a.out.now))) e, w.1 ∙ ap (λ (r : Record). record_buffer r a.out.now) e)
