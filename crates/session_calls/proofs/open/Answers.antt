-- `session_calls::open` meets its contract. Assumes nothing.
use Rattle.std.proofs.Common.{refl, sym, arith}
use Rattle.refusals.specs.OutcomeLaws.{passed}
use Rattle.book_calls.proofs.Passing.{passes_on_two, refuses_with_two, accepts_with_two}
use Rattle.session_calls.proofs.SessionBytesLaws.{short-called, short_back, short-kept, closed_not, opened-there}
use Rattle.session_calls.proofs.open.Goals as goal

pub returns-then-state-lt278 : goal.returns-then-state-lt278
returns-then-state-lt278 c =
    let s = c.args.state.now in
    let h = c.if-state-lt278.true in
    refuses_with_two _ c.new.ensures (omega arith) (short-called s h _, short_back s h _ _, short-kept s h _ _)

pub returns-in_err-open : goal.returns-in_err-open
returns-in_err-open c =
    let a = c.args in
    let opened = c.open.ensures in
    passes_on_two _ _ _ opened.0 c.in_err-open.was c.from_residual.ensures.1
    (λ z k. opened-there a.date a.market a.buffer.now a.state.now c.if-state-lt278.false z opened.1 opened.2 refl (closed_not _ _ a.market k))

pub returns : goal.returns
returns c =
    let a = c.args in
    let opened = c.open.ensures in
    accepts_with_two _
    (opened-there a.date a.market a.buffer.now a.state.now c.if-state-lt278.false (sym (passed _ _ opened.0 c.in_ok-open.was)) opened.1 opened.2 refl c.put_closed.ensures)
