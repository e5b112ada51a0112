-- `session_calls::book` meets its contract. Assumes nothing.
use Rattle.std.proofs.Common.{sym, length}
use Rattle.refusals.specs.OutcomeLaws.{passed}
use Rattle.book_calls.proofs.Passing.{passes_on_two, accepts_with_two}
use Rattle.session_calls.specs.SessionBytes.{session_of}
use Rattle.session_calls.proofs.SessionBytesLaws.{booked-there, unbooked}
use Rattle.session_calls.proofs.book.Goals as goal

pub returns-in_err-append_good : goal.returns-in_err-append_good
unfolding session_of
returns-in_err-append_good c =
    let a = c.args in
    let booked = c.append_good.ensures in
    passes_on_two _ _ _ booked.0 c.in_err-append_good.was c.from_residual.ensures.1
    (λ z k. (z, booked.1, unbooked a.state.now (length a.buffer.now) a.m.now z k booked.2))

pub returns : goal.returns
unfolding session_of
returns c =
    let a = c.args in
    let booked = c.append_good.ensures in
    let z = passed _ _ booked.0 c.in_ok-append_good.was in
    accepts_with_two _ (
      sym z,
      booked.1,
      booked-there a.state.now (length a.buffer.now) a.m.now c.requires c.phase_in-phase.ensures c.outgoing_in-outgoing.ensures c.market_in-market.ensures z booked.2 c.put.ensures,
    )
