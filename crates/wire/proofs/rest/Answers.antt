-- `wire::rest` meets its contract. Assumes nothing.
use mathlib.Core.Path.{sym, ◌∙◌}
use native.Mathlib.Omega.{arith}
use Prim.Native.Nat.{◌≤◌}
use lib.ListN.{length, drop_of_length-le}
use lib.Seq.{drop-length}
use Rattle.numbers.proofs.Tail.{tail_is}
use Rattle.wire.proofs.rest.Goals as goal

pub returns-then-at-n : goal.returns-then-at-n
returns-then-at-n c = tail_is c.args.s.now c.args.at (omega arith)

pub returns-else-at-n : goal.returns-else-at-n
returns-else-at-n c =
    let s = c.args.s.now in
    let h : length s ≤ c.args.at = omega arith in
    tail_is s (length s) (omega arith) ∙ drop-length s ∙ sym (drop_of_length-le s h)
