-- `session_calls::heartbeat` meets its contract. Assumes nothing.
use Rattle.std.proofs.Common.{refl, sym, ap, ◌∙◌, arith}
use Rattle.book_calls.proofs.Passing.{refuses_with, answers_as}
use Rattle.session.specs.Answer.{Answer}
use Rattle.session.specs.Sessions.{is_open}
use Rattle.session.proofs.SessionLaws.{beats, no_beat}
use Rattle.session_calls.specs.SessionBytes.{session_of}
use Rattle.session_calls.proofs.SessionBytesLaws.{short-called, short_back, long_called, long_back}
use Rattle.session_calls.proofs.heartbeat.Goals as goal

pub returns-then-state-lt278 : goal.returns-then-state-lt278
returns-then-state-lt278 c =
    let s = c.args.state.now in
    let h = c.if-state-lt278.true in
    refuses_with _ c.new.ensures (omega arith) (short-called s h _, short_back s h _ _)

pub returns-then-not-is_open : goal.returns-then-not-is_open
returns-then-not-is_open c =
    let a = c.args in
    let s = a.state.now in
    let h = c.if-state-lt278.false in
    let b = no_beat (session_of s) a.out.now (sym (ap is_open c.phase_in-phase.ensures) ∙ sym c.is_open.ensures ∙ c.if-not-is_open.true) in
    refuses_with _ c.new-then-not-is_open.ensures (omega arith) (ap (λ (x : Answer). x.refusal) b.0 ∙ long_called s h _, b.1 ∙ long_back s h _ _)

pub returns : goal.returns
returns c =
    let a = c.args in
    let s = a.state.now in
    let h = c.if-state-lt278.false in
    let wrote = c.write_body.ensures in
    let b = beats (session_of s) a.out.now (sym (ap is_open c.phase_in-phase.ensures) ∙ sym c.is_open.ensures ∙ c.if-not-is_open.false) (refl, wrote.1) in
    answers_as _ wrote.0 (ap (λ (x : Answer). x.refusal) b.0 ∙ long_called s h _, b.1 ∙ long_back s h _ _)
