-- `order_reader::read_as` meets its contract: a message that is refused changes nothing, and one that is not is stored whole. Assumes nothing.
use Rattle.refusals.specs.OutcomeLaws.{passed, good}
use Rattle.orders.proofs.Refusing.{passes_with}
use Rattle.order_reader.proofs.Readings.{refused-keeps}
use Rattle.orders.specs.Markets.{typed}
use mathlib.Core.Path.{refl}
use Rattle.order_reader.proofs.read_as.Goals as goal

pub returns-in_err-check_as : goal.returns-in_err-check_as
returns-in_err-check_as c =
    let a = c.args in
    passes_with _ c.check_as.ensures c.in_err-check_as.was c.from_residual.ensures.1 (refused-keeps (typed a.message a.m.now) a.buffer.now refl)

pub put_as-requires : goal.put_as-requires
put_as-requires c = (c.requires.0, passed _ _ c.check_as.ensures c.in_ok-check_as.was, c.requires.1)

pub returns : goal.returns
returns c = (good _ _ (passed _ _ c.check_as.ensures c.in_ok-check_as.was), c.put_as.ensures)
