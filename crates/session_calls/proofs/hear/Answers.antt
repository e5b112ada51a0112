-- `session_calls::hear` meets its contract. Assumes nothing.
use mathlib.Core.Path.{refl, sym, ap, ◌∙◌}
use Rattle.numbers.specs.Numbers.{patched}
use Rattle.session.specs.declared.Phase.{Phase}
use Rattle.session.specs.declared.Session.{Session}
use Rattle.session.specs.Sessions.{in_phase}
use Rattle.session.proofs.SessionLaws.{hears_response, hears_complete, hears_logout, hears_else}
use Rattle.session_calls.specs.SessionBytes.{session_of, session_bytes}
use Rattle.session_calls.proofs.hear.Goals as goal

pub returns-then-message-eq36 : goal.returns-then-message-eq36
returns-then-message-eq36 c =
    let start = c in
    let a = start.args in
    let s = a.state.now in
    let told = c.respond.ensures in
    let b = hears_response (session_of s) a.buffer.now a.m.now (sym start.requires.1 ∙ c.if-message-eq36.true) refl told.0 in
    (b.1, told.1 ∙ ap (λ (x : Session). patched s 0 (session_bytes x)) b.0)

pub returns-then-message-eq19 : goal.returns-then-message-eq19
returns-then-message-eq19 c =
    let start = c in
    let a = start.args in
    let s = a.state.now in
    let b = hears_complete (session_of s) a.buffer.now a.m.now (sym start.requires.1 ∙ c.if-message-eq19.true) refl in
    (b.1, c.set_phase.ensures ∙ ap (λ (x : Session). patched s 0 (session_bytes x)) b.0)

pub returns-then-message-eq8 : goal.returns-then-message-eq8
returns-then-message-eq8 c =
    let start = c in
    let a = start.args in
    let s = a.state.now in
    let ended = c.end.ensures in
    let b = hears_logout (session_of s) a.buffer.now a.m.now (sym start.requires.1 ∙ c.if-message-eq8.true) refl ended.0 in
    (b.1, ended.1 ∙ ap (λ (x : Session). patched s 0 (session_bytes x)) b.0)

pub returns : goal.returns
returns c =
    let start = c in
    let a = start.args in
    let s = a.state.now in
    let t = start.requires.1 in
    let b = hears_else (session_of s) a.buffer.now a.m.now (λ e. c.if-message-eq36.false (t ∙ e)) (λ e. c.if-message-eq19.false (t ∙ e)) (λ e. c.if-message-eq8.false (t ∙ e)) in (
      b.1,
      c.set_phase-2.ensures ∙ ap (λ (q : Phase). patched s 0 (session_bytes (in_phase q (session_of s)))) c.phase_in-phase.ensures
          ∙ ap (λ (x : Session). patched s 0 (session_bytes x)) b.0,
    )
