-- `session_calls::login` meets its contract. Assumes nothing.
use Rattle.std.proofs.Common.{refl, sym, ap, ◌∙◌, length, arith}
use Rattle.refusals.specs.OutcomeLaws.{passed}
use Rattle.book_calls.specs.BookBytes.{book_of}
use Rattle.book_calls.proofs.Passing.{passes_on_two, refuses_with_two, accepts_with_two}
use Rattle.session.specs.declared.Phase.TheVariants.{Asked}
use Rattle.session.specs.Sessions.{is_closed, in_phase, login_of}
use Rattle.session.proofs.SessionLaws.{no_login, login-refused, logs_in_lem}
use Rattle.session_calls.specs.LoginBytes.{given_record}
use Rattle.session_calls.specs.SessionBytes.{session_of}
use Rattle.session_calls.proofs.SessionBytesLaws.{short-called, short_back, short-kept, none-called, none-back, none_kept, given_back_lem, given_leaves, leaves_refused, leaves_stored}
use Rattle.session_calls.proofs.login.Goals as goal

pub returns-then-state-lt278 : goal.returns-then-state-lt278
returns-then-state-lt278 c =
    let s = c.args.state.now in
    let h = c.if-state-lt278.true in
    refuses_with_two _ c.new.ensures (omega arith) (short-called s h _, short_back s h _ _, short-kept s h _ _)

pub returns-then-given-lt87 : goal.returns-then-given-lt87
returns-then-given-lt87 c =
    let s = c.args.state.now in
    let g = c.args.given.now in
    let h = c.if-state-lt278.false in
    let k = c.if-given-lt87.true in
    refuses_with_two _ c.new-then-given-lt87.ensures (omega arith) (none-called g s h k _, none-back g s h k _ _, none_kept g s h k _ _)

pub returns-then-not-is_closed : goal.returns-then-not-is_closed
returns-then-not-is_closed c =
    let a = c.args in
    let s = a.state.now in
    let g = a.given.now in
    let h = c.if-state-lt278.false in
    let k = c.if-given-lt87.false in
    let r = given_record (book_of s).table g in
    let b = no_login (session_of s) r a.out.now (sym (ap is_closed c.phase_in-phase.ensures) ∙ sym c.is_closed.ensures ∙ c.if-not-is_closed.true) in
    let l = given_leaves g s h k (login_of (session_of s) r (length a.out.now)) (leaves_refused s (session_of s) (λ z. omega (arith, z)) b.0) in
    refuses_with_two _ c.new-then-not-is_closed.ensures (omega arith) (l.0, b.1 ∙ given_back_lem g s h k _ _, l.1)

pub returns-in_err-write_given : goal.returns-in_err-write_given
returns-in_err-write_given c =
    let a = c.args in
    let s = a.state.now in
    let g = a.given.now in
    let h = c.if-state-lt278.false in
    let k = c.if-given-lt87.false in
    let r = given_record (book_of s).table g in
    let e = sym (ap is_closed c.phase_in-phase.ensures) ∙ sym c.is_closed.ensures ∙ c.if-not-is_closed.false in
    let wrote = c.write_given.ensures in
    passes_on_two _ _ _ wrote.0 c.in_err-write_given.was c.from_residual.ensures.1 (λ z n.
    (let b = login-refused (session_of s) r a.out.now e (z, wrote.1) n in
    let l = given_leaves g s h k (login_of (session_of s) r (length a.out.now)) (leaves_refused s (session_of s) n b.0) in
    (l.0, b.1 ∙ given_back_lem g s h k _ _, l.1)))

pub returns : goal.returns
returns c =
    let a = c.args in
    let s = a.state.now in
    let g = a.given.now in
    let h = c.if-state-lt278.false in
    let k = c.if-given-lt87.false in
    let r = given_record (book_of s).table g in
    let e = sym (ap is_closed c.phase_in-phase.ensures) ∙ sym c.is_closed.ensures ∙ c.if-not-is_closed.false in
    let wrote = c.write_given.ensures in
    let b = logs_in_lem (session_of s) r a.out.now e (refl, wrote.1) (passed _ _ wrote.0 c.in_ok-write_given.was) refl in
    let l = given_leaves g s h k (login_of (session_of s) r (length a.out.now)) (leaves_stored s (in_phase Asked (session_of s)) c.set_phase.ensures b.0) in
    accepts_with_two _ (l.0, b.1 ∙ given_back_lem g s h k _ _, l.1)
