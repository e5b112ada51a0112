-- `order_writer::put_count` meets its contract. Assumes nothing.
use mathlib.Core.Path.{refl, ap, ◌∙◌}
use mathlib.Core.List.{[], ◌∷◌}
use Prim.Native.Nat.{◌+◌, ◌≤◌}
use native.Mathlib.Omega.{arith}
use lib.ListN.{length, length-set}
use Rattle.numbers.specs.NumberLaws.{patched-length}
use Rattle.numbers.proofs.Tail.{puts_then, tail_length, first_stored}
use Rattle.order_writer.specs.Stages.{field_bytes}
use Rattle.order_writer.proofs.Puts.{fields-length}
use Rattle.order_writer.proofs.put_count.Goals.{Start}
use Rattle.order_writer.proofs.put_count.Goals as goal

-- the tail has room for the count and what follows it
room : (c : Start) → 1 + length (field_bytes c.args.message c.args.count c.args.bits.now c.args.held.now c.args.slots.now) ≤ length c.args.tail.now
room c =
    let a = c.args in
    let p = c.requires in
    omega (arith, p.4, fields-length a.message a.count a.bits.now a.held.now a.slots.now p.1 p.3 (omega (arith, p.0, p.2)))

pub slice_bounds-put_fields-count : goal.slice_bounds-put_fields-count
slice_bounds-put_fields-count c = simp length-set (omega (arith, c.requires.4))

pub slice_bounds-put_fields-start : goal.slice_bounds-put_fields-start
slice_bounds-put_fields-start c = simp length-set (omega (arith, c.requires.4))

pub put_fields-requires : goal.put_fields-requires
put_fields-requires c =
    let start = c in
    let a = start.args in
    let p = start.requires in
    let out₁ = first_stored a.count a.tail.now (omega (arith, p.4)) in
    (p.0, p.1, p.2, p.3, omega (arith, p.4, tail_length a.tail.now _ (a.count ∷ []) (field_bytes a.message a.count a.bits.now a.held.now a.slots.now) 1 refl (room (goal.at.put_fields-requires c).Start) out₁))

pub returns : goal.returns
returns c =
    let start = c in
    let a = start.args in
    let out₁ = first_stored a.count a.tail.now (omega (arith, start.requires.4)) in
    puts_then a.tail.now _ (a.count ∷ []) (field_bytes a.message a.count a.bits.now a.held.now a.slots.now) 1 refl (room (goal.at.returns c).Start) out₁ c.put_fields.ensures

pub shape_of-tail : goal.shape_of-tail
shape_of-tail c =
    let start = c in
    let a = start.args in
    ap length (returns c)
    ∙ patched-length a.tail.now 0 (a.count ∷ field_bytes a.message a.count a.bits.now a.held.now a.slots.now) (omega (arith, room (goal.at.shape_of-tail c).Start))
