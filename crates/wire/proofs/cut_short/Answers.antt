-- `wire::cut_short` meets its contract. Assumes nothing.
use Rattle.wire.specs.Frame.{cut_short}
use borrow.Author.Tests.{lt-ltb, le-ltb}
use lib.ListN.{length}
use lib.Dec.{ltb}
use native.Mathlib.Omega.{arith}
use mathlib.Core.Path.{ap}
use Prim.Native.Nat.{ℕ}
use Rattle.wire.proofs.cut_short.Goals as goal

pub returns-then-s-lt4 : goal.returns-then-s-lt4
unfolding cut_short
returns-then-s-lt4 c = rw (lt-ltb _ 4 c.if-s-lt4.true)

pub returns : goal.returns
unfolding cut_short
returns c =
    let s = c.args.s.now in
    rw (le-ltb (length s) 4 (omega arith)) (ap (λ (x : ℕ). ltb (length s) x) c.total_of.ensures)
