-- `block::copy_few` meets its contract: none, both ends, or one byte. Assumes nothing.
use Rattle.block.specs.Ends.{one-put, none-put}
use native.Mathlib.Omega.{arith}
use Rattle.block.proofs.copy_few.Goals as goal

pub returns-then-n-eq0 : goal.returns-then-n-eq0
returns-then-n-eq0 c =
    let a = c.args in
    none-put a.to.now a.from.now (omega arith)

pub returns-then-n-eq1 : goal.returns-then-n-eq1
returns-then-n-eq1 c =
    let test = c in
    let a = test.args in
    one-put a.to.now a.from.now (omega arith) (omega arith)

pub returns-else-n-eq1 : goal.returns-else-n-eq1
returns-else-n-eq1 c =
    let a = c.args in
    none-put a.to.now a.from.now (omega arith)
