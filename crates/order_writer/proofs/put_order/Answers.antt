-- `order_writer::put_order` meets its contract. Assumes nothing.
use mathlib.Core.Path.{◌≡◌, refl, ap, ◌∙◌}
use Prim.Native.Nat.{ℕ, ◌+◌, ◌-◌, ◌≤◌}
use native.Mathlib.Omega.{arith}
use lib.ListN.{length}
use Rattle.numbers.specs.Numbers.{patched, put_buffer}
use Rattle.numbers.specs.NumberLaws.{put_stores}
use Rattle.numbers.proofs.Tail.{puts_then, tail_length}
use Rattle.wire.specs.Header.{header_bytes}
use Rattle.orders.specs.Markets.{wire_type}
use Rattle.orders.proofs.OrderLaws.{count_bounds}
use Rattle.order_writer.specs.Stages.{rest_bytes}
use Rattle.order_writer.proofs.Puts.{rest-length}
use Rattle.order_writer.proofs.put_order.Goals.{After-write_header, Start}
use Rattle.order_writer.proofs.put_order.Goals as goal

-- the message has more than the header, and there is room for both
long : (c : Start) → 10 ≤ c.args.size
long c = omega (arith, c.requires.5, (count_bounds c.args.message).low)

room : (c : Start) → 10 + length (rest_bytes c.args.message c.args.count c.args.fixed.now c.args.bits.now c.args.slots.now) ≤ length c.args.out.now
room c =
    let a = c.args in
    let p = c.requires in
    omega (arith, rest-length a.message a.count a.fixed.now a.bits.now a.slots.now p.1 p.2 p.3 p.0 p.4, p.5, p.6, (count_bounds a.message).low)

put-header : (c : After-write_header) → c.write_header.new.tail ≡ patched c.args.out.now 0 (header_bytes (c.args.size - 2) (wire_type c.args.message) c.args.unit c.args.number)
put-header c =
    let a = c.args in
    let named = c.wire_type-named in
    c.write_header.ensures.1
    ∙ ap (λ (t : ℕ). put_buffer a.out.now 0 (header_bytes (a.size - 2) t a.unit a.number)) named.ensures
    ∙ put_stores c.args.out.now 0 (header_bytes (c.args.size - 2) (wire_type c.args.message) c.args.unit c.args.number) (omega (arith, c.requires.5, (count_bounds c.args.message).low, c.requires.6))

pub overflow_sub-size : goal.overflow_sub-size
overflow_sub-size c = omega (arith, long (goal.at.overflow_sub-size c).Start)

pub slice_bounds-put_rest-count : goal.slice_bounds-put_rest-count
slice_bounds-put_rest-count c =
    let head = c in
    omega (arith, long (goal.at.slice_bounds-put_rest-count c).Start, head.requires.6, head.write_header.auto.tail)

pub slice_bounds-put_rest-start : goal.slice_bounds-put_rest-start
slice_bounds-put_rest-start c =
    let head = c in
    omega (arith, long (goal.at.slice_bounds-put_rest-start c).Start, head.requires.6, head.write_header.auto.tail)

pub put_rest-requires : goal.put_rest-requires
put_rest-requires c =
    let head = c in
    let start = head in
    let p = start.requires in
    let t = tail_length start.args.out.now _ (header_bytes (start.args.size - 2) (wire_type start.args.message) start.args.unit start.args.number) (rest_bytes start.args.message start.args.count start.args.fixed.now start.args.bits.now start.args.slots.now) 10 refl (room (goal.at.put_rest-requires c).Start) (put-header (goal.at.put_rest-requires c).After-write_header) in
    (p.0, p.1, p.2, p.3, p.4, omega (arith, t, p.5, p.6, (count_bounds start.args.message).low))

pub returns : goal.returns
returns c =
    let head = c in
    let start = head in
    puts_then start.args.out.now _ (header_bytes (start.args.size - 2) (wire_type start.args.message) start.args.unit start.args.number) (rest_bytes start.args.message start.args.count start.args.fixed.now start.args.bits.now start.args.slots.now) 10 refl (room (goal.at.returns c).Start) (put-header (goal.at.returns c).After-write_header) c.put_rest.ensures
