-- `session::check_response` meets its contract. Assumes nothing.
use Rattle.std.proofs.Common.{sym, ap, ◌∙◌, arith}
use Rattle.refusals.specs.OutcomeLaws.{passed}
use Rattle.wire.specs.Header.{type_of}
use Rattle.session_messages.specs.Sessions.{read_refusal}
use Rattle.session.proofs.Passing.{passes, refuses, answers}
use Rattle.session.proofs.ReadingLaws.{response_unframed, response_foreign, response_judged}
use Rattle.session.proofs.check_response.Goals as goal

pub returns-in_err-check_frame : goal.returns-in_err-check_frame
returns-in_err-check_frame c = passes _ _ _ c.check_frame.ensures c.in_err-check_frame.was c.from_residual.ensures.1 (response_unframed c.args.bytes.now)

pub returns-then-type_of-ne36 : goal.returns-then-type_of-ne36
returns-then-type_of-ne36 c =
    refuses _ c.new.ensures (omega arith)
    (response_foreign c.args.bytes.now (passed _ _ c.check_frame.ensures c.in_ok-check_frame.was) (λ e. c.if-type_of-ne36.true (c.type_of.ensures ∙ ap type_of c.frame-m.ensures ∙ e)))

pub returns : goal.returns
returns c =
    answers _ c.check_session.ensures
    (response_judged c.args.bytes.now (passed _ _ c.check_frame.ensures c.in_ok-check_frame.was)
    (sym (c.type_of.ensures ∙ ap type_of c.frame-m.ensures) ∙ c.if-type_of-ne36.false) (ap read_refusal c.frame-m.ensures))
