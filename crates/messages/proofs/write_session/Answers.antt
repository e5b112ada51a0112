-- `messages::write_session` meets its contract: where the record is whole, the parts given are those of the record of the bytes. Assumes nothing.
use Rattle.messages.specs.Messages.{session_at}
use Rattle.messages.proofs.Stages.{size_stops, sized-writes}
use Rattle.session_messages.specs.Sessions as sessions
use Rattle.messages.proofs.Passing.{refuses_with, answers_as}
use native.Mathlib.Omega.{arith}
use Prim.Native.Nat.{ℕ}
use lib.ListN.{length, get_or, take, drop}
use mathlib.Core.Path.{ap, ◌∙◌}
use Rattle.messages.proofs.write_session.Goals as goal

pub returns-then-given-lt-RECORD : goal.returns-then-given-lt-RECORD
returns-then-given-lt-RECORD c =
    let a = c.args in
    refuses_with _ c.new.ensures (omega arith) (size_stops _ _ _ _ a.out.now (omega (arith, c.if-given-lt-RECORD.true)))

pub returns : goal.returns
unfolding session_at
returns c =
    let a = c.args in
    let s = a.given.now in
    let n = c.read_u32-number.ensures in
    let wrote = c.write_body.ensures in
    answers_as _ wrote.0 (sized-writes _ _ _ _ a.out.now (omega (arith, c.if-given-lt-RECORD.false)) (
      ap (λ (x : ℕ). sessions.write_refusal (get_or s 0 0) (get_or s 1 0) x (take 433 (drop 6 s)) (length a.out.now)) n,
      wrote.1 ∙ ap (λ (x : ℕ). sessions.write_buffer (get_or s 0 0) (get_or s 1 0) x (take 433 (drop 6 s)) a.out.now) n,
    ))
