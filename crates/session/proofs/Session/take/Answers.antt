-- `session::Session::take` meets its contract. Assumes nothing.
use Rattle.std.proofs.Common.{refl, sym, ap, ◌∙◌, length, arith}
use Rattle.wire.specs.Header.{type_of}
use Rattle.orders.specs.Shapes.{sequenced}
use Rattle.session.specs.Stages.{heard_by, heard_buffer}
use Rattle.session.specs.Sessions.{passes}
use Rattle.session.proofs.Passing.{refuses_answer, accepts_answer, answers_answer}
use Rattle.session.proofs.SessionLaws.{untimely, by_message, by_session}
use Rattle.session.proofs.Session.take.Goals as goal

pub returns-then-not-passes : goal.returns-then-not-passes
returns-then-not-passes c =
    let a = c.args in
    let t = c.type_of-message.ensures ∙ ap type_of c.frame-m.ensures in
    refuses_answer c.new.ensures (omega arith)
    (untimely a.self a.buffer.now a.bytes.now c.requires.0 c.requires.1 (ap (passes a.self.phase) (sym t) ∙ sym c.passes.ensures ∙ c.if-not-passes.true))

pub append_read-requires : goal.append_read-requires
append_read-requires c =
    let t = c.type_of-message.ensures ∙ ap type_of c.frame-m.ensures in
    (c.requires.1, ap sequenced (sym t) ∙ sym c.is_sequenced.ensures ∙ c.if-is_sequenced.true)

pub returns-then-is_sequenced : goal.returns-then-is_sequenced
returns-then-is_sequenced c =
    let a = c.args in
    let t = c.type_of-message.ensures ∙ ap type_of c.frame-m.ensures in
    let told = c.append_read.ensures in
    answers_answer _ told.0
    (by_message a.self a.buffer.now a.bytes.now c.requires.0 c.requires.1 (ap (passes a.self.phase) (sym t) ∙ sym c.passes.ensures ∙ c.if-not-passes.false)
    (ap sequenced (sym t) ∙ sym c.is_sequenced.ensures ∙ c.if-is_sequenced.true) (refl, told.1))

pub returns : goal.returns
returns c =
    let a = c.args in
    let t = c.type_of-message.ensures ∙ ap type_of c.frame-m.ensures in
    let told = c.heard.ensures in
    accepts_answer
    (by_session a.self a.buffer.now a.bytes.now c.requires.0 c.requires.1 (ap (passes a.self.phase) (sym t) ∙ sym c.passes.ensures ∙ c.if-not-passes.false)
    (ap sequenced (sym t) ∙ sym c.is_sequenced.ensures ∙ c.if-is_sequenced.false)
    (told.0 ∙ ap (heard_by a.self (length a.buffer.now)) c.frame-m.ensures, told.1 ∙ ap (heard_buffer a.self a.buffer.now) c.frame-m.ensures))
