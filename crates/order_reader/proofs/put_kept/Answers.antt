-- `order_reader::put_kept` meets its contract: the middle is put over the zeros after the fixed part. Assumes nothing.
use Rattle.order_reader.proofs.Fronts.{kept_put}
use Rattle.order_reader.proofs.put_kept.Goals as goal

pub returns : goal.returns
returns c =
    let put = c in
    let fixed = put in
    let start = fixed in
    let a = start.args in
    kept_put a.m.now a.message a.count a.bits.now a.rest.now start.requires.0 start.requires.1 start.requires.2 a.tail.now _ _ start.requires.3 fixed.put_fixed.ensures put.put_middle.ensures
