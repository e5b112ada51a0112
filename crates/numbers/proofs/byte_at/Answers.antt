-- `numbers::byte_at` meets its contract. Assumes nothing.
use lib.ListN.{get_or-eq_default}
use mathlib.Core.Path.{sym}
use Rattle.numbers.proofs.byte_at.Goals as goal

pub returns-else-at-s : goal.returns-else-at-s
returns-else-at-s c = sym (get_or-eq_default c.args.s.now 0 c.if-at-s.false)
