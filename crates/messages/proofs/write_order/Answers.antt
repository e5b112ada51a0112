-- `messages::write_order` meets its contract. Assumes nothing.
use Rattle.messages.proofs.Stages.{size_stops, sized-writes}
use Rattle.messages.proofs.Passing.{refuses_with, answers_as}
use mathlib.Core.Path.{refl}
use native.Mathlib.Omega.{arith}
use Rattle.messages.proofs.write_order.Goals as goal

pub returns-then-given-lt-RECORD : goal.returns-then-given-lt-RECORD
returns-then-given-lt-RECORD c =
    let a = c.args in
    refuses_with _ c.new.ensures (omega arith) (size_stops _ _ _ _ a.out.now (omega (arith, c.if-given-lt-RECORD.true)))

pub returns : goal.returns
returns c =
    let a = c.args in
    let wrote = c.write_order.ensures in
    answers_as _ wrote.0 (sized-writes _ _ _ _ a.out.now (omega (arith, c.if-given-lt-RECORD.false)) (refl, wrote.1))
