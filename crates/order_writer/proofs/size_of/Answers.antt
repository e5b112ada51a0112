-- `order_writer::size_of` meets its contract. Assumes nothing.
use mathlib.Core.Path.{ap, ap₂, ◌∙◌}
use Prim.Native.Nat.{ℕ, ◌+◌, ◌≤◌}
use native.Mathlib.Omega.{arith}
use Rattle.block.specs.Sizes.{fixed_end}
use Rattle.orders.specs.Middle.{middle_size}
use Rattle.orders.proofs.OrderLaws.{count_bounds}
use Rattle.order_writer.proofs.Held.{held_low, held-there, held_is_lem}
use Rattle.order_writer.proofs.size_of.Goals.{After-count_at-at}
use Rattle.order_writer.proofs.size_of.Goals as goal

-- how far the count byte stands
near : (c : After-count_at-at) → c.count_at-at.result ≤ fixed_end
near c = omega (arith, c.count_at-at.ensures, (count_bounds c.args.message).high)

pub overflow_sub-n : goal.overflow_sub-n
overflow_sub-n c =
    let start = c in
    held_low start.args.message start.args.fixed.now start.requires.0 c.count_at-at.ensures

pub slice_bounds-middle_size-count : goal.slice_bounds-middle_size-count
slice_bounds-middle_size-count c =
    let start = c in
    held-there start.args.message start.args.fixed.now start.requires.0 c.count_at-at.ensures

pub slice_bounds-middle_size-start : goal.slice_bounds-middle_size-start
slice_bounds-middle_size-start c =
    let start = c in
    omega (arith, held-there start.args.message start.args.fixed.now start.requires.0 c.count_at-at.ensures)

pub overflow_add-result : goal.overflow_add-result
overflow_add-result c = omega (arith, near (goal.at.overflow_add-result c).After-count_at-at)

pub overflow_add-result-2 : goal.overflow_add-result-2
overflow_add-result-2 c = omega (arith, near (goal.at.overflow_add-result-2 c).After-count_at-at, c.ranges.count)

pub overflow_add-result-4 : goal.overflow_add-result-4
overflow_add-result-4 c =
    let start = c in
    omega (arith, near (goal.at.overflow_add-result-4 c).After-count_at-at, start.ranges.count, start.requires.1, c.middle_size-middle.ensures.1)

pub returns : goal.returns
returns c =
    let at = c in
    let start = at in
    let a = start.args in
    let e = c.middle_size-middle.ensures.0 ∙ ap (middle_size a.message a.count a.bits.now) (held_is_lem a.message a.fixed.now start.requires.0 at.count_at-at.ensures) in
    ap₂ (λ (n k : ℕ). n + 1 + a.count + (k + a.total)) at.count_at-at.ensures e
