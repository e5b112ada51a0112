-- `messages::write` meets its contract. Assumes nothing.
use Rattle.messages.proofs.Passing.{refuses_with, answers_as}
use Rattle.messages.proofs.MessageLaws.{write_empty, write_stops, session_writes, order_writes}
use mathlib.Core.Path.{refl, sym, ◌∙◌}
use native.Mathlib.Omega.{arith}
use Rattle.messages.proofs.write.Goals as goal

pub returns-then-given-eq0 : goal.returns-then-given-eq0
returns-then-given-eq0 c =
    let a = c.args in
    refuses_with _ c.new.ensures (omega arith) (write_empty a.direction a.given.now a.out.now c.if-given-eq0.true)

pub returns-then-not-carries : goal.returns-then-not-carries
returns-then-not-carries c =
    let a = c.args in
    refuses_with _ c.new-then-not-carries.ensures (omega arith) (write_stops a.direction a.given.now a.out.now c.if-given-eq0.false (sym c.carries.ensures ∙ c.if-not-carries.true))

pub returns-then-is_session : goal.returns-then-is_session
returns-then-is_session c =
    let a = c.args in
    let wrote = c.write_session.ensures in
    answers_as _ wrote.0 (session_writes a.direction a.given.now a.out.now c.if-given-eq0.false (sym c.carries.ensures ∙ c.if-not-carries.false)
    (sym c.is_session.ensures ∙ c.if-is_session.true) (refl, wrote.1))

pub returns : goal.returns
returns c =
    let a = c.args in
    let wrote = c.write_order.ensures in
    answers_as _ wrote.0 (order_writes a.direction a.given.now a.out.now c.if-given-eq0.false (sym c.carries.ensures ∙ c.if-not-carries.false)
    (sym c.is_session.ensures ∙ c.if-is_session.false) (refl, wrote.1))
