-- `kinds::half` meets its contract: the sum of four bytes, each 256 times the one before it, has those bytes.
-- Assumes nothing.
use native.Mathlib.Omega.{arith}
use Rattle.kinds.proofs.Joins.{four_bytes}
use Rattle.kinds.proofs.half.Goals as goal

pub returns : goal.returns
returns c =
    let at3 = c in
    let at2 = at3 in
    let at1 = at2 in
    let s = at1.args.s.now in
    (four_bytes s (omega arith) _ _ _ _ at1.wide.ensures at2.wide-2.ensures at3.wide-3.ensures c.wide-4.ensures, omega arith)
