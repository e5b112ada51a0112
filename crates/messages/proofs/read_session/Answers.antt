-- `messages::read_session` meets its contract. Assumes nothing.
use Rattle.refusals.specs.OutcomeLaws.{passed}
use Rattle.messages.proofs.Passing.{passes_on, refuses_with, accepts_with}
use Rattle.messages.proofs.Puts.{session_length}
use Rattle.messages.proofs.Stages.{judged_stops, room_stops, roomy_reads}
use borrow.Author.Tests.{eq-eqb}
use native.Mathlib.Omega.{arith}
use mathlib.Core.Path.{sym}
use Rattle.messages.proofs.read_session.Goals as goal

pub returns-in_err-check_session : goal.returns-in_err-check_session
returns-in_err-check_session c = passes_on _ _ _ c.check_session.ensures c.in_err-check_session.was c.from_residual.ensures.1 (judged_stops _ _ _ c.args.buffer.now)

pub returns-then-buffer-lt-RECORD : goal.returns-then-buffer-lt-RECORD
returns-then-buffer-lt-RECORD c =
    let z = passed _ _ c.check_session.ensures c.in_ok-check_session.was in
    refuses_with _ c.new.ensures (omega arith) (room_stops _ _ _ c.args.buffer.now z (omega (arith, c.if-buffer-lt-RECORD.true)))

pub put_session-requires : goal.put_session-requires
put_session-requires c =
    let l = session_length c.args.m.now (passed _ _ c.check_session.ensures c.in_ok-check_session.was) in
    (l.0, l.1, omega (arith, c.if-buffer-lt-RECORD.false))

pub returns : goal.returns
returns c =
    let z = passed _ _ c.check_session.ensures c.in_ok-check_session.was in
    accepts_with _ (roomy_reads _ _ _ c.args.buffer.now (omega (arith, c.if-buffer-lt-RECORD.false)) (sym z, rw (eq-eqb _ 0 z) c.put_session.ensures))
