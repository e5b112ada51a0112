-- `order_reader::put_slots` meets its contract: the optional bytes are lent after the middle. Assumes nothing.
use Rattle.numbers.proofs.Tail.{tail_is}
use Rattle.numbers.specs.Numbers.{patched}
use Rattle.orders.specs.Orders.{layout_of}
use native.Mathlib.Omega.{arith}
use Prim.Native.Nat.{ℕ}
use mathlib.Core.List.{List}
use lib.ListN.{length, drop, length-drop}
use mathlib.Core.Path.{ap, ◌∙◌}
use Rattle.order_reader.proofs.put_slots.Goals as goal

pub put_layout-requires : goal.put_layout-requires
put_layout-requires c =
    let sized = c in
    let start = sized in
    let a = start.args in
    let n = sized.middle_size-size.ensures.0 in
    let t = tail_is a.rest.now sized.middle_size-size.result (omega (arith, n, start.requires.2)) in
    (start.requires.0, start.requires.1, omega (arith, n, start.requires.2, ap length t, length-drop sized.middle_size-size.result a.rest.now), start.requires.3)

pub returns : goal.returns
returns c =
    let put = c in
    let sized = put in
    let start = sized in
    let a = start.args in
    let n = sized.middle_size-size.ensures.0 in
    let t = tail_is a.rest.now sized.middle_size-size.result (omega (arith, n, start.requires.2)) in
    put.put_layout.ensures
    ∙ ap (λ (o : List ℕ). patched a.tail.now 0 (layout_of a.message a.count a.bits.now o)) (t ∙ ap (λ (i : ℕ). drop i a.rest.now) n)
