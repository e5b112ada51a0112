-- `session::Session::receive` meets its contract. Assumes nothing.
use Rattle.std.proofs.Common.{sym, ap, ◌∙◌, length, arith}
use Rattle.refusals.specs.OutcomeLaws.{passed, value_of}
use Rattle.wire.specs.Frame.{framed}
use Rattle.wire.specs.Header.{type_of}
use Rattle.session.specs.Sessions.{told_of, receive_of}
use Rattle.session.proofs.Passing.{passes_on, refuses_with}
use Rattle.session.proofs.SessionLaws.{deaf, unreadable, received_as, refusal_in}
use Rattle.session.proofs.Session.receive.Goals as goal

pub returns-then-is_closed : goal.returns-then-is_closed
returns-then-is_closed c =
    let a = c.args in
    refuses_with _ c.new.ensures (omega arith) (refusal_in (deaf a.self a.buffer.now a.bytes.now (sym c.is_closed.ensures ∙ c.if-is_closed.true)))

pub returns-in_err-check_message : goal.returns-in_err-check_message
returns-in_err-check_message c =
    let a = c.args in
    passes_on _ _ _ c.check_message.ensures c.in_err-check_message.was c.from_residual.ensures.1
    (λ z k. refusal_in (unreadable a.self a.buffer.now a.bytes.now (sym c.is_closed.ensures ∙ c.if-is_closed.false) z k))

pub take-requires : goal.take-requires
take-requires c = (sym c.is_closed.ensures ∙ c.if-is_closed.false, passed _ _ c.check_message.ensures c.in_ok-check_message.was)

pub returns-in_err-s : goal.returns-in_err-s
returns-in_err-s c =
    let told = c.take.ensures in
    passes_on _ _ _ told.0 c.in_err-s.was c.from_residual-in_err-s.ensures.1 (λ z k. (z, told.1))

pub returns : goal.returns
returns c =
    let a = c.args in
    let told = c.take.ensures in (
      received_as (receive_of a.self (length a.buffer.now) a.bytes.now) (framed a.bytes.now) (passed _ _ told.0 c.in_ok-s.was) (value_of _ _ told.0 c.in_ok-s.was)
          (c.told_of-told.ensures ∙ ap told_of (c.type_of.ensures ∙ ap type_of c.frame.ensures)),
      told.1,
    )
