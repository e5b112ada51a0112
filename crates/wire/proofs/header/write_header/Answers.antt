-- `wire::header::write_header` meets its contract. Assumes nothing.
use Rattle.std.proofs.Common.{rules}
use Rattle.refusals.specs.OutcomeLaws.{good}
use Rattle.numbers.specs.Numbers.{patched}
use Rattle.numbers.specs.NumberLaws.{put-takes, put_stores}
use Rattle.wire.specs.Header.{header_bytes}
use Rattle.numbers.proofs.Tail.{no_room}
use Prim.Native.Nat.{◌+◌, ◌≤◌}
use lib.ListN.{length, drop}
use mathlib.Core.List.{◌++◌}
use mathlib.Core.Path.{◌≡◌, sym, ap, ◌∙◌}
use native.Mathlib.Omega.{arith}
use Rattle.wire.proofs.header.write_header.Goals as goal

pub returns-then-tail-lt10 : goal.returns-then-tail-lt10
returns-then-tail-lt10 c =
    let a = c.args in
    no_room a.tail.now 0 (header_bytes a.length a.type_byte a.unit a.number) c.if-tail-lt10.true c.new.ensures

pub returns : goal.returns
unfolding patched
returns c =
    let a = c.args in
    let xs = a.tail.now in
    let bs = header_bytes a.length a.type_byte a.unit a.number in
    let l : 0 + length bs ≤ length xs = omega arith in
    let e : c.copy_from_slice.new.self ≡ bs = search rules in
    (good _ _ (put-takes xs 0 bs l), ap (λ ys. ys ++ drop 10 xs) e ∙ sym (put_stores xs 0 bs l))
