-- `session::Session::heard` meets its contract. Assumes nothing.
use Rattle.session.specs.Sessions.{responded_by, responded_buffer}
use Rattle.session.proofs.SessionLaws.{hears_response, hears_complete, hears_logout, hears_else}
use mathlib.Core.Path.{sym, ap, ap₂, ◌∙◌}
use lib.ListN.{length}
use Prim.Native.Nat.{ℕ}
use Rattle.session.proofs.Session.heard.Goals as goal

pub returns-then-message-eq36 : goal.returns-then-message-eq36
returns-then-message-eq36 c =
    let told = c in
    let number = told in
    let then = number in
    let a = then.args in
    let xs = a.buffer.now in
    hears_response a.self xs a.m.now (sym then.type_of-message.ensures ∙ then.if-message-eq36.true)
    (told.responded.ensures.0 ∙ ap₂ (λ (x y : ℕ). responded_by a.self x y (length xs)) number.byte_at-status.ensures number.received_in-received.ensures)
    (told.responded.ensures.1 ∙ ap (λ (x : ℕ). responded_buffer a.self x xs) number.byte_at-status.ensures)

pub returns-then-message-eq19 : goal.returns-then-message-eq19
returns-then-message-eq19 c =
    let then = c in
    let typed = then in
    let a = typed.args in
    hears_complete a.self a.buffer.now a.m.now (sym typed.type_of-message.ensures ∙ then.if-message-eq19.true) c.in_phase.ensures

pub returns-then-message-eq8 : goal.returns-then-message-eq8
returns-then-message-eq8 c =
    let ended = c in
    let then = ended in
    let typed = then in
    let a = typed.args in
    hears_logout a.self a.buffer.now a.m.now (sym typed.type_of-message.ensures ∙ then.if-message-eq8.true) ended.ended.ensures.0 ended.ended.ensures.1

pub returns : goal.returns
returns c =
    let second = c in
    let first = second in
    let typed = first in
    let a = typed.args in
    let t = typed.type_of-message.ensures in
    hears_else a.self a.buffer.now a.m.now (λ e. first.if-message-eq36.false (t ∙ e)) (λ e. second.if-message-eq19.false (t ∙ e)) (λ e. c.if-message-eq8.false (t ∙ e))
