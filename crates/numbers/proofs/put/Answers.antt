-- `numbers::put` meets its contract. Assumes nothing.
use Rattle.numbers.proofs.Tail.{no_room, lent}
use native.Mathlib.Omega.{arith}
use Rattle.numbers.proofs.put.Goals as goal

pub returns-then-out-at : goal.returns-then-out-at
returns-then-out-at g c = no_room c.args.out.now c.args.at c.args.bytes (omega arith) c.new.ensures

pub returns : goal.returns
returns g c = lent c.args.out.now c.args.at c.args.bytes (omega arith) c.put_front.ensures
