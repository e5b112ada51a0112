-- `session::Session::heartbeat` meets its contract. Assumes nothing.
use Rattle.std.proofs.Common.{sym, ◌∙◌, arith}
use Rattle.refusals.specs.OutcomeLaws.{passed}
use Rattle.session.proofs.Passing.{passes_answer, refuses_answer, accepts_answer}
use Rattle.session.proofs.SessionLaws.{beats, no_beat}
use Rattle.session.proofs.Session.heartbeat.Goals as goal

pub returns-then-not-is_open : goal.returns-then-not-is_open
returns-then-not-is_open c =
    let a = c.args in
    refuses_answer c.new.ensures (omega arith) (no_beat a.self a.out.now (sym c.is_open.ensures ∙ c.if-not-is_open.true))

pub returns-in_err-write_body : goal.returns-in_err-write_body
returns-in_err-write_body c =
    let a = c.args in
    let wrote = c.write_body.ensures in
    passes_answer _ _ wrote.0 c.in_err-write_body.was c.from_residual.ensures.1
    (λ z k. beats a.self a.out.now (sym c.is_open.ensures ∙ c.if-not-is_open.false) (z, wrote.1))

pub returns : goal.returns
returns c =
    let a = c.args in
    let wrote = c.write_body.ensures in
    accepts_answer
    (beats a.self a.out.now (sym c.is_open.ensures ∙ c.if-not-is_open.false) (sym (passed _ _ wrote.0 c.in_ok-write_body.was), wrote.1))
