-- `messages::check_message` meets its contract: framing's refusal, the type's, then the message's own. Assumes nothing.
use mathlib.Core.Path.{sym, ap, ap₂, ◌∙◌}
use native.Mathlib.Omega.{arith}
use lib.ListN.{length}
use Rattle.std.specs.Prelude.{Err}
use Rattle.orders.specs.Orders as orders
use Rattle.orders.specs.Markets.{typed}
use Rattle.session_messages.specs.Sessions as sessions
use Rattle.refusals.specs.Outcomes.{outcome, outcome_with}
use Rattle.refusals.specs.OutcomeLaws.{passed}
use Rattle.messages.specs.Messages.{is_session, carries}
use Rattle.messages.proofs.Heard.{long_enough, as_typed, heard_type, named, session_heard}
use Rattle.messages.proofs.MessageLaws.{type_refuses, session_refuses, order_refuses}
use Rattle.messages.proofs.check_message.Goals as goal

pub returns-then-not-carries : goal.returns-then-not-carries
unfolding outcome_with
returns-then-not-carries c =
    let a = c.args in
    let z = passed _ _ c.check_frame.ensures c.in_ok-check_frame.was in
    let t = named a.direction a.bytes.now z c.frame-m.ensures c.type_of.ensures c.type_in-message.ensures in
    ap Err c.new.ensures ∙ ap outcome (type_refuses a.direction a.bytes.now z (ap (carries a.direction) (sym t) ∙ sym c.carries.ensures ∙ c.if-not-carries.true))

pub returns-then-is_session : goal.returns-then-is_session
returns-then-is_session c =
    let a = c.args in
    let s = a.bytes.now in
    let z = passed _ _ c.check_frame.ensures c.in_ok-check_frame.was in
    let t = named a.direction s z c.frame-m.ensures c.type_of.ensures c.type_in-message.ensures in
    let session = ap is_session (sym t) ∙ sym c.is_session.ensures ∙ c.if-is_session.true in
    c.check_session.ensures
    ∙ ap outcome (ap sessions.read_refusal (c.frame-m.ensures ∙ sym (session_heard a.direction s z session))
    ∙ session_refuses a.direction s z (ap (carries a.direction) (sym t) ∙ sym c.carries.ensures ∙ c.if-not-carries.false) session)

pub check_as-requires : goal.check_as-requires
check_as-requires c =
    let a = c.args in
    omega (arith, ap length c.frame-m.ensures, long_enough a.direction a.bytes.now (passed _ _ c.check_frame.ensures c.in_ok-check_frame.was))

pub returns : goal.returns
returns c =
    let a = c.args in
    let s = a.bytes.now in
    let z = passed _ _ c.check_frame.ensures c.in_ok-check_frame.was in
    let t = named a.direction s z c.frame-m.ensures c.type_of.ensures c.type_in-message.ensures in
    c.check_as.ensures
    ∙ ap outcome (ap orders.read_refusal (ap₂ typed (t ∙ heard_type a.direction s z) c.frame-m.ensures ∙ as_typed a.direction s z)
    ∙ order_refuses a.direction s z (ap (carries a.direction) (sym t) ∙ sym c.carries.ensures ∙ c.if-not-carries.false)
    (ap is_session (sym t) ∙ sym c.is_session.ensures ∙ c.if-is_session.false))
