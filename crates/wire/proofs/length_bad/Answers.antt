-- `wire::length_bad` meets its contract. Assumes nothing.
use Rattle.wire.specs.Frame.{length_bad}
use Rattle.wire.specs.Header.{length_of}
use borrow.Author.Tests.{lt-ltb, le-ltb, le-leb, lt-leb}
use lib.ListN.{length}
use lib.Dec.{ltb}
use native.Mathlib.Omega.{arith}
use mathlib.Core.Path.{◌≡◌, ap}
use Prim.Native.Nat.{ℕ}
use Rattle.wire.proofs.length_bad.Goals as goal

pub returns-then-s-lt4 : goal.returns-then-s-lt4
unfolding length_bad
returns-then-s-lt4 c = rw (lt-leb 4 _ c.if-s-lt4.true)

pub returns-then-n-lt8 : goal.returns-then-n-lt8
unfolding length_bad
returns-then-n-lt8 c =
    let s = c.args.s.now in
    let n : _ ≡ length_of s = c.length_of-n.ensures in
    rw (le-leb 4 (length s) (omega arith), lt-ltb (length_of s) 8 (omega arith))

pub returns : goal.returns
unfolding length_bad
returns c =
    let s = c.args.s.now in
    let n : _ ≡ length_of s = c.length_of-n.ensures in
    rw (le-leb 4 (length s) (omega arith), le-ltb (length_of s) 8 (omega arith)) (ap (λ (x : ℕ). ltb 2046 x) n)
