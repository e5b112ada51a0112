-- `order_fields::put_at` meets its contract. Assumes nothing.
use Rattle.numbers.proofs.Tail.{lent-patched}
use native.Mathlib.Omega.{arith}
use Rattle.order_fields.proofs.put_at.Goals as goal

pub returns : goal.returns
returns c =
    let a = c.args in
    lent-patched a.to.now a.at a.bytes.now (omega arith) c.copy.ensures
