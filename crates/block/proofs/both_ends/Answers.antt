-- `block::both_ends` meets its contract: the first k bytes and the last k are all of them. Assumes nothing.
use Rattle.block.proofs.Moves.{ends-moved}
use Rattle.block.proofs.both_ends.Goals as goal

pub returns : goal.returns
returns c =
    let last = c in
    let first = last in
    let start = first in
    let a = start.args in
    ends-moved a.to.now a.from.now a.k _ start.requires.0 start.requires.1 start.requires.2 first.move_field.ensures last.move_field-2.ensures
