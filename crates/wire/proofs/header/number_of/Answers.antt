-- `wire::header::number_of` meets its contract. Assumes nothing.
use Rattle.wire.specs.Header.{number_of}
use Rattle.wire.proofs.header.number_of.Goals as goal

pub returns : goal.returns
unfolding number_of
returns c = c.read_u32.ensures
