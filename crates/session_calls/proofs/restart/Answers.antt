-- `session_calls::restart` meets its contract. Assumes nothing.
use Rattle.std.proofs.Common.{refl, sym, arith}
use Rattle.refusals.specs.OutcomeLaws.{passed}
use Rattle.book_calls.proofs.Passing.{passes_on, refuses_with, accepts_with}
use Rattle.session_calls.proofs.SessionBytesLaws.{short-called, short-kept, closed_not, restarted-there}
use Rattle.session_calls.proofs.restart.Goals as goal

pub returns-then-state-lt278 : goal.returns-then-state-lt278
returns-then-state-lt278 c =
    let s = c.args.state.now in
    let h = c.if-state-lt278.true in
    refuses_with _ c.new.ensures (omega arith) (short-called s h _, short-kept s h _ _)

pub returns-in_err-restart : goal.returns-in_err-restart
returns-in_err-restart c =
    let a = c.args in
    let restarted = c.restart.ensures in
    passes_on _ _ _ restarted.0 c.in_err-restart.was c.from_residual.ensures.1
    (λ z k. restarted-there a.date a.market a.bytes.now a.state.now c.if-state-lt278.false z restarted.1 refl (closed_not _ _ a.market k))

pub returns : goal.returns
returns c =
    let a = c.args in
    let restarted = c.restart.ensures in
    accepts_with _
    (restarted-there a.date a.market a.bytes.now a.state.now c.if-state-lt278.false (sym (passed _ _ restarted.0 c.in_ok-restart.was)) restarted.1 refl c.put_closed.ensures)
