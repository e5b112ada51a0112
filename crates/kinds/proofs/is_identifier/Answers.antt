-- `kinds::is_identifier` meets its contract: `both` answers for the range and for what `is_excepted` does not name.
-- Assumes nothing.
use Rattle.kinds.proofs.is_identifier.Goals as goal

pub returns : goal.returns
returns c = rw (c.both.ensures, c.is_excepted.ensures, c.is_within.ensures)
