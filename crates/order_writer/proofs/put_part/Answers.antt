-- `order_writer::put_part` meets its contract: the part that is moved is the front of the fixed part. Assumes nothing.
use Rattle.orders.specs.Shapes.{count_at}
use Rattle.orders.proofs.OrderLaws.{count_bounds}
use Rattle.numbers.specs.Numbers.{patched}
use native.Mathlib.Omega.{arith}
use lib.ListN.{length, take}
use lib.Seq.{length-take-le}
use Prim.Native.Nat.{ℕ, ◌-◌, ◌≤◌}
use mathlib.Core.Path.{◌≡◌, ap, ◌∙◌}
use Rattle.block.specs.Sizes.{fixed_size}
use Rattle.order_writer.proofs.put_part.Goals.{Start}
use Rattle.order_writer.proofs.put_part.Goals as goal

-- the bytes of a fixed part are no more than a record has
few : (c : Start) → c.args.n ≤ fixed_size
few c = omega (arith, c.requires.0, (count_bounds c.args.message).high)

pub slice_bounds-move_field-end : goal.slice_bounds-move_field-end
slice_bounds-move_field-end c = omega (arith, few (goal.at.slice_bounds-move_field-end c).Start, c.requires.1)

pub move_field-requires : goal.move_field-requires
move_field-requires c =
    let start = c in
    let a = start.args in
    let l : length (take (a.n - 0) a.fixed.now) ≡ a.n - 0 = length-take-le (a.n - 0) a.fixed.now (omega (arith, few (goal.at.move_field-requires c).Start, start.requires.1)) in
    (omega (arith, l, start.requires.0, start.requires.2), omega (arith, l, few (goal.at.move_field-requires c).Start))

pub returns : goal.returns
returns c =
    let start = c in
    let a = start.args in
    let e : a.n - 0 ≡ count_at a.message - 10 = omega (arith, start.requires.0) in
    c.move_field.ensures ∙ ap (λ (k : ℕ). patched a.tail.now 0 (take k a.fixed.now)) e
