-- `session::Session::login` meets its contract. Assumes nothing.
use Rattle.std.proofs.Common.{refl, sym, ◌∙◌, arith}
use Rattle.refusals.specs.OutcomeLaws.{passed}
use Rattle.session_logins.specs.LoginRequests.{login_record}
use Rattle.session.proofs.Passing.{passes_answer, refuses_answer, accepts_answer}
use Rattle.session.proofs.SessionLaws.{login-refused, logs_in_lem, no_login}
use Rattle.session.proofs.Session.login.Goals as goal

pub returns-then-not-is_closed : goal.returns-then-not-is_closed
returns-then-not-is_closed c =
    let a = c.args in
    refuses_answer c.new.ensures (omega arith)
    (no_login a.self (login_record a.self.book.table a.choice a.names a.acknowledgments a.executions) a.out.now (sym c.is_closed.ensures ∙ c.if-not-is_closed.true))

pub returns-in_err-write_login : goal.returns-in_err-write_login
returns-in_err-write_login c =
    let a = c.args in
    let wrote = c.write_login.ensures in
    passes_answer _ _ wrote.0 c.in_err-write_login.was c.from_residual.ensures.1
    (λ z k. login-refused a.self (login_record a.self.book.table a.choice a.names a.acknowledgments a.executions) a.out.now (sym c.is_closed.ensures ∙ c.if-not-is_closed.false) (z, wrote.1) k)

pub returns : goal.returns
returns c =
    let a = c.args in
    let wrote = c.write_login.ensures in
    accepts_answer
    (logs_in_lem a.self (login_record a.self.book.table a.choice a.names a.acknowledgments a.executions) a.out.now (sym c.is_closed.ensures ∙ c.if-not-is_closed.false) (refl, wrote.1)
    (passed _ _ wrote.0 c.in_ok-write_login.was) c.in_phase.ensures)
