-- `order_reader::put_block` meets its contract: the count, and in the tail after it the bitfields. Assumes nothing.
use Rattle.numbers.proofs.Tail.{puts_then, tail_length, first_stored}
use Rattle.numbers.specs.NumberLaws.{patched-length}
use Rattle.block.specs.Slots.{zeros}
use Rattle.order_reader.proofs.Fronts.{pad_long}
use mathlib.Core.Path.{refl, ap, ◌∙◌}
use mathlib.Core.List.{[], ◌∷◌, ◌++◌}
use Prim.Native.Nat.{◌-◌}
use lib.ListN.{length, length-set}
use native.Mathlib.Omega.{arith}
use Rattle.block.specs.Sizes.{most_bitfields}
use Rattle.order_reader.proofs.put_block.Goals as goal

pub slice_bounds-put_bits-count : goal.slice_bounds-put_bits-count
slice_bounds-put_bits-count c = simp length-set (omega (arith, c.requires.1))

pub slice_bounds-put_bits-start : goal.slice_bounds-put_bits-start
slice_bounds-put_bits-start c = simp length-set (omega (arith, c.requires.1))

pub put_bits-requires : goal.put_bits-requires
put_bits-requires c =
    let start = c in
    let a = start.args in
    let pad = a.bits.now ++ zeros (most_bitfields - length a.bits.now) in
    let n = pad_long a.bits.now start.requires.0 in
    let first = first_stored a.count a.tail.now (omega (arith, start.requires.1)) in
    (start.requires.0, omega (arith, tail_length a.tail.now _ (a.count ∷ []) pad 1 refl (omega (arith, n, start.requires.1)) first, start.requires.1))

pub shape_of-tail : goal.shape_of-tail
shape_of-tail c =
    let start = c in
    let a = start.args in
    let pad = a.bits.now ++ zeros (most_bitfields - length a.bits.now) in
    let n = pad_long a.bits.now start.requires.0 in
    let first = first_stored a.count a.tail.now (omega (arith, start.requires.1)) in
    ap length (puts_then a.tail.now _ (a.count ∷ []) pad 1 refl (omega (arith, n, start.requires.1)) first c.put_bits.ensures)
    ∙ patched-length a.tail.now 0 (a.count ∷ pad) (omega (arith, n, start.requires.1))

pub returns : goal.returns
returns c =
    let start = c in
    let a = start.args in
    let pad = a.bits.now ++ zeros (most_bitfields - length a.bits.now) in
    let n = pad_long a.bits.now start.requires.0 in
    let first = first_stored a.count a.tail.now (omega (arith, start.requires.1)) in
    puts_then a.tail.now _ (a.count ∷ []) pad 1 refl (omega (arith, n, start.requires.1)) first c.put_bits.ensures
