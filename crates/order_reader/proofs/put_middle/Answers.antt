-- `order_reader::put_middle` meets its contract: the middle in the tail after the fixed part. Assumes nothing.
use Rattle.numbers.proofs.Tail.{tail_is, lent-patched}
use Rattle.numbers.specs.Numbers.{patched}
use Rattle.orders.proofs.OrderLaws.{count_bounds}
use native.Mathlib.Omega.{arith}
use Prim.Native.Nat.{ℕ, ◌-◌}
use lib.ListN.{length, take, length-drop}
use mathlib.Core.Path.{ap, ap₂, ◌∙◌}
use Rattle.order_reader.proofs.put_middle.Goals as goal

pub overflow_sub-n : goal.overflow_sub-n
overflow_sub-n c = omega (arith, c.count_at-n.ensures, (count_bounds c.args.message).low)

pub copy_front-requires : goal.copy_front-requires
copy_front-requires c =
    let at = c in
    let sized = at in
    let start = sized in
    let a = start.args in
    let n = sized.middle_size-k.ensures.0 in
    let m = at.count_at-n.ensures in
    let low = (count_bounds a.message).low in
    let high = (count_bounds a.message).high in
    (omega (arith, n, start.requires.0), omega (arith, ap length (tail_is a.tail.now (at.count_at-n.result - 10) (omega (arith, m, high, start.requires.2))), length-drop (at.count_at-n.result - 10) a.tail.now, n, m, low, start.requires.1, start.requires.2))

pub returns : goal.returns
returns c =
    let put = c in
    let at = put in
    let sized = at in
    let start = sized in
    let a = start.args in
    let m = at.count_at-n.ensures in
    let high = (count_bounds a.message).high in
    lent-patched a.tail.now (at.count_at-n.result - 10) _ (omega (arith, m, high, start.requires.2)) put.copy_front.ensures
    ∙ ap₂ (λ (i k : ℕ). patched a.tail.now (i - 10) (take k a.rest.now)) m sized.middle_size-k.ensures.0
