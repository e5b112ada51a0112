-- `numbers::put_front` meets its contract. Assumes nothing.
use Rattle.refusals.specs.OutcomeLaws.{good}
use Rattle.numbers.specs.Numbers.{patched}
use Rattle.numbers.specs.NumberLaws.{put-takes, put_stores}
use Rattle.numbers.proofs.Tail.{no_room}
use Prim.Native.Nat.{◌+◌, ◌≤◌}
use lib.ListN.{length, drop}
use mathlib.Core.List.{◌++◌}
use mathlib.Core.Path.{◌≡◌, sym, ◌∙◌}
use native.Mathlib.Omega.{arith}
use Rattle.numbers.proofs.put_front.Goals as goal

pub returns-then-tail : goal.returns-then-tail
returns-then-tail g c = no_room c.args.tail.now 0 c.args.bytes (omega arith) c.new.ensures

pub returns : goal.returns
unfolding patched
returns g c =
    let xs = c.args.tail.now in
    let bs = c.args.bytes in
    let l : 0 + length bs ≤ length xs = omega arith in
    let z : 0 + length bs ≡ length bs = omega arith in
    let n : g.row.N ≡ length bs = omega arith in
    let q : bs ++ drop g.row.N xs ≡ patched xs 0 bs = rw (n, z) in
    (good _ _ (put-takes xs 0 bs l), rw (c.copy_from_slice.ensures.after) (q ∙ sym (put_stores xs 0 bs l)))
