-- `session::Session::message` meets its contract. Assumes nothing.
use Rattle.std.proofs.Common.{refl, sym, ◌∙◌, arith}
use Rattle.refusals.specs.OutcomeLaws.{passed}
use Rattle.session.proofs.Passing.{passes_answer, refuses_answer, answers_answer}
use Rattle.session.proofs.ReadingLaws.{told_by, shut, unread, goes_on, after_is_message, good_is_read}
use Rattle.session.proofs.Session.message.Goals as goal

pub returns-then-is_closed : goal.returns-then-is_closed
returns-then-is_closed c =
    let a = c.args in
    refuses_answer c.new.ensures (omega arith)
    (told_by a.self a.buffer.now a.bytes.now refl (shut a.self _ a.buffer.now a.bytes.now (sym c.is_closed.ensures ∙ c.if-is_closed.true)) (after_is_message a.self a.buffer.now a.bytes.now))

pub returns-in_err-check_message : goal.returns-in_err-check_message
returns-in_err-check_message c =
    let a = c.args in
    passes_answer _ _ c.check_message.ensures c.in_err-check_message.was c.from_residual.ensures.1
    (λ z k. told_by a.self a.buffer.now a.bytes.now z (unread a.self _ a.buffer.now a.bytes.now (sym c.is_closed.ensures ∙ c.if-is_closed.false) k) (after_is_message a.self a.buffer.now a.bytes.now))

pub take-requires : goal.take-requires
take-requires c = (sym c.is_closed.ensures ∙ c.if-is_closed.false, good_is_read c.args.bytes.now (passed _ _ c.check_message.ensures c.in_ok-check_message.was))

pub returns : goal.returns
returns c =
    let a = c.args in
    let told = c.take.ensures in
    answers_answer _ told.0
    (told_by a.self a.buffer.now a.bytes.now refl
    (goes_on a.self _ a.buffer.now a.bytes.now (sym c.is_closed.ensures ∙ c.if-is_closed.false) (passed _ _ c.check_message.ensures c.in_ok-check_message.was) (refl, told.1))
    (after_is_message a.self a.buffer.now a.bytes.now))
