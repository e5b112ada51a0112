use Rattle.order_reader.proofs.InPlace.{put-over}
use Rattle.block.specs.Sizes.{most_bitfields}
use Rattle.order_reader.proofs.put_bits.Goals as goal

pub returns : goal.returns
returns c =
    let start = c in
    let a = start.args in
    put-over a.tail.now a.bits.now _ _ most_bitfields start.requires.0 start.requires.1 c.clear.ensures c.copy_few.ensures
