-- `order_writer::purge_blank` meets its contract: a good middle ends within the fixed part, and what follows it is looked at. Assumes nothing.
use mathlib.Core.Path.{◌≡◌, refl, ap, ◌∙◌}
use Prim.Native.Nat.{ℕ, ◌+◌, ◌≤◌}
use native.Mathlib.Omega.{arith}
use lib.ListN.{length, drop}
use Rattle.numbers.proofs.Tail.{tail_is}
use Rattle.kinds.specs.Kinds.{all_nul}
use Rattle.orders.specs.Middle.{middle_size}
use Rattle.orders.proofs.OrderLaws.{in_purge_orders, middle-fits}
use Rattle.order_writer.proofs.Held.{blank-after}
use Rattle.order_writer.proofs.purge_blank.Goals.{After-middle_size-from}
use Rattle.order_writer.proofs.purge_blank.Goals as goal

-- the bytes of the middle
size : (c : After-middle_size-from) → c.middle_size-from.result ≡ middle_size 0x47 c.args.count c.args.bits.now (drop 1 c.args.fixed.now)
size c =
    let a = c.args in
    c.middle_size-from.ensures.0 ∙ ap (middle_size 0x47 a.count a.bits.now) (tail_is a.fixed.now 1 (omega (arith, c.requires.0)))

fits : (c : After-middle_size-from) → 1 + c.middle_size-from.result ≤ length c.args.fixed.now
fits c =
    let start = c in
    let a = start.args in
    omega (arith, (let a = c.args in c.middle_size-from.ensures.0 ∙ ap (middle_size 0x47 a.count a.bits.now) (tail_is a.fixed.now 1 (omega (arith, c.requires.0)))), middle-fits 0x47 a.count a.bits.now (drop 1 a.fixed.now) start.requires.1, in_purge_orders 0x47 refl, start.requires.0)

pub slice_bounds-is_blank-count : goal.slice_bounds-is_blank-count
slice_bounds-is_blank-count c = fits (goal.at.slice_bounds-is_blank-count c).After-middle_size-from

pub slice_bounds-is_blank-start : goal.slice_bounds-is_blank-start
slice_bounds-is_blank-start c = omega (arith, fits (goal.at.slice_bounds-is_blank-start c).After-middle_size-from)

pub returns : goal.returns
returns c =
    let sized = c in
    let s = sized.args.fixed.now in
    c.is_blank.ensures ∙ blank-after s 1 sized.middle_size-from.result (fits (goal.at.returns c).After-middle_size-from) ∙ ap (λ (k : ℕ). all_nul (drop k (drop 1 s))) (size (goal.at.returns c).After-middle_size-from)
