-- `wire::header::length_of` meets its contract. Assumes nothing.
use Rattle.wire.specs.Header.{length_of}
use Rattle.wire.proofs.header.length_of.Goals as goal

pub returns : goal.returns
unfolding length_of
returns c = c.read_u16.ensures
