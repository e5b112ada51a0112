-- `order_reader::put_layout` meets its contract: what the field reader stores in the cleared front of the tail is the layout. Assumes nothing.
use Rattle.order_reader.proofs.Fronts.{layout_put}
use Rattle.order_reader.proofs.put_layout.Goals as goal

pub returns : goal.returns
returns c =
    let cleared = c in
    let start = cleared in
    let a = start.args in
    layout_put a.message a.count a.bits.now a.optional.now start.requires.2 a.tail.now _ _ start.requires.3 cleared.clear.ensures c.store_all.ensures
