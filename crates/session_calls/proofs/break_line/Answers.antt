-- `session_calls::break_line` meets its contract. Assumes nothing.
use Rattle.std.proofs.Common.{refl, sym, ap, ◌∙◌, arith}
use Rattle.book_calls.proofs.Passing.{refuses_with_two, accepts_with_two}
use Rattle.session.specs.declared.Phase.{Phase}
use Rattle.session.specs.Sessions.{is_closed, in_phase}
use Rattle.session.proofs.SessionLaws.{stays_closed, breaks}
use Rattle.numbers.specs.Numbers.{patched}
use Rattle.session_calls.specs.SessionBytes.{session_of, session_bytes}
use Rattle.session_calls.proofs.SessionBytesLaws.{short-called, short_back, short-kept, long_called, long_back, broken-there}
use Rattle.session_calls.proofs.break_line.Goals as goal

pub returns-then-state-lt278 : goal.returns-then-state-lt278
returns-then-state-lt278 c =
    let s = c.args.state.now in
    let h = c.if-state-lt278.true in
    refuses_with_two _ c.new.ensures (omega arith) (short-called s h _, short_back s h _ _, short-kept s h _ _)

pub returns-then-is_closed : goal.returns-then-is_closed
returns-then-is_closed c =
    let a = c.args in
    let s = a.state.now in
    let h = c.if-state-lt278.false in
    let p = c.phase_in-phase.ensures in
    let b = stays_closed (session_of s) a.buffer.now (sym (ap is_closed p) ∙ sym c.is_closed.ensures ∙ c.if-is_closed.true) in
    accepts_with_two _
    (long_called s h 0, b.1 ∙ long_back s h _ _, broken-there s h (c.set_phase.ensures ∙ ap (λ (q : Phase). patched s 0 (session_bytes (in_phase q (session_of s)))) p) b.0)

pub returns : goal.returns
returns c =
    let a = c.args in
    let s = a.state.now in
    let h = c.if-state-lt278.false in
    let p = c.phase_in-phase.ensures in
    let ended = c.end.ensures in
    let b = breaks (session_of s) a.buffer.now (sym (ap is_closed p) ∙ sym c.is_closed.ensures ∙ c.if-is_closed.false) refl ended.0 in
    accepts_with_two _ (long_called s h 0, b.1 ∙ long_back s h _ _, broken-there s h ended.1 b.0)
