-- `order_reader::check_block` meets its contract: the optional bytes are lent after the middle. Assumes nothing.
use Rattle.order_reader.proofs.Fronts.{least_is}
use Rattle.numbers.proofs.Tail.{tail_is}
use native.Mathlib.Omega.{arith}
use mathlib.Core.Path.{◌∙◌}
use Rattle.order_reader.proofs.check_block.Goals as goal

pub slice_bounds-check_parts-count : goal.slice_bounds-check_parts-count
slice_bounds-check_parts-count c = (least_is c.args.rest.now _ c.least-from.ensures).0

pub slice_bounds-check_parts-start : goal.slice_bounds-check_parts-start
slice_bounds-check_parts-start c = (least_is c.args.rest.now _ c.least-from.ensures).0

pub check_parts-requires : goal.check_parts-requires
check_parts-requires c =
    let least = c in
    let sized = least in
    let start = sized in
    let a = start.args in
    let k = least_is a.rest.now _ least.least-from.ensures in
    (start.requires.0, start.requires.1, start.requires.2, sized.middle_size-size.ensures.0, omega (arith, sized.middle_size-size.ensures.1), tail_is a.rest.now _ k.0 ∙ k.1)
