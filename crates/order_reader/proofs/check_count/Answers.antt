-- `order_reader::check_count` meets its contract: each return is the branch of the definition that its tests choose. Assumes nothing.
use Rattle.orders.proofs.Refusing.{tells_at, tells_none}
use Rattle.order_reader.specs.Stages.{count_refusal}
use borrow.Author.Tests.{lt-ltb, le-ltb, lt-leb, le-leb}
use lib.ListN.{length, get_or}
use native.Mathlib.Omega.{arith}
use Prim.Native.Nat.{◌+◌, ◌≤◌, ◌<◌}
use Rattle.order_reader.proofs.check_count.Goals as goal

pub returns-then-m-at : goal.returns-then-m-at
unfolding count_refusal
returns-then-m-at c =
    let a = c.args in
    let n : length a.m.now ≤ a.at = omega arith in
    tells_at _ _ c.wrong_total.ensures (rw (le-leb _ _ n))

pub returns-then-most-count : goal.returns-then-most-count
unfolding count_refusal
returns-then-most-count c =
    let a = c.args in
    let n : a.at < length a.m.now = omega arith in
    let h : a.most < get_or a.m.now a.at 0 = omega arith in
    tells_at _ _ c.at.ensures (rw (lt-leb _ _ n, lt-ltb _ _ h))

pub returns-then-m-at-2 : goal.returns-then-m-at-2
unfolding count_refusal
returns-then-m-at-2 c =
    let a = c.args in
    let n : a.at < length a.m.now = omega arith in
    let h : get_or a.m.now a.at 0 ≤ a.most = omega arith in
    let f : length a.m.now < a.at + 1 + get_or a.m.now a.at 0 = omega arith in
    tells_at _ _ c.wrong_total-then-m-at-2.ensures (rw (lt-leb _ _ n, le-ltb _ _ h, lt-ltb _ _ f))

pub returns : goal.returns
unfolding count_refusal
returns c =
    let a = c.args in
    let n : a.at < length a.m.now = omega arith in
    let h : get_or a.m.now a.at 0 ≤ a.most = omega arith in
    let f : a.at + 1 + get_or a.m.now a.at 0 ≤ length a.m.now = omega arith in
    tells_none (rw (lt-leb _ _ n, le-ltb _ _ h, le-ltb _ _ f))
