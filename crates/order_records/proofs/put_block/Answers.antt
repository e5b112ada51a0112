-- `order_records::put_block` meets its contract. Assumes nothing.
use Rattle.numbers.proofs.Tail.{puts_then, tail_length, first_stored}
use mathlib.Core.Path.{refl, ap, ◌∙◌}
use mathlib.Core.List.{[], ◌∷◌, ◌++◌}
use Rattle.numbers.specs.NumberLaws.{patched-length}
use lib.ListN.{length, length-append, length-set}
use native.Mathlib.Omega.{arith}
use Rattle.order_records.proofs.put_block.Goals as goal

pub slice_bounds-put_fields-count : goal.slice_bounds-put_fields-count
slice_bounds-put_fields-count c = simp length-set (omega (arith, c.requires.2))

pub slice_bounds-put_fields-start : goal.slice_bounds-put_fields-start
slice_bounds-put_fields-start c = simp length-set (omega (arith, c.requires.2))

pub put_fields-requires : goal.put_fields-requires
put_fields-requires c =
    let start = c in
    let a = start.args in
    let out₁ = first_stored a.count a.tail.now (omega (arith, start.requires.2)) in
    let n = length-append a.bits.now a.slots.now in
    let t = tail_length a.tail.now _ (a.count ∷ []) (a.bits.now ++ a.slots.now) 1 refl (omega (arith, n, start.requires.0, start.requires.1, start.requires.2)) out₁ in
    (start.requires.0, start.requires.1, omega (arith, t, start.requires.2))

pub shape_of-tail : goal.shape_of-tail
shape_of-tail c =
    let start = c in
    let a = start.args in
    let out₁ = first_stored a.count a.tail.now (omega (arith, start.requires.2)) in
    let n = length-append a.bits.now a.slots.now in
    ap length (puts_then a.tail.now _ (a.count ∷ []) (a.bits.now ++ a.slots.now) 1 refl (omega (arith, n, start.requires.0, start.requires.1, start.requires.2)) out₁ c.put_fields.ensures)
    ∙ patched-length a.tail.now 0 (a.count ∷ (a.bits.now ++ a.slots.now)) (omega (arith, n, start.requires.0, start.requires.1, start.requires.2))

pub returns : goal.returns
returns c =
    let start = c in
    let a = start.args in
    let out₁ = first_stored a.count a.tail.now (omega (arith, start.requires.2)) in
    let n = length-append a.bits.now a.slots.now in
    puts_then a.tail.now _ (a.count ∷ []) (a.bits.now ++ a.slots.now) 1 refl (omega (arith, n, start.requires.0, start.requires.1, start.requires.2)) out₁ c.put_fields.ensures
