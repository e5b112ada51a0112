-- `kinds::fine` meets its contract: NUL may follow any byte, and for any other `both` answers.
-- Assumes nothing.
use mathlib.Core.Path.{ap, ◌∙◌}
use mathlib.Core.Bool.{not, ◌&&◌}
use lib.Dec.{eqb}
use borrow.Author.Tests.{eq-eqb, ne_eqb}
use Rattle.kinds.proofs.fine.Goals as goal

pub returns-then-b-eq0 : goal.returns-then-b-eq0
returns-then-b-eq0 c = rw (eq-eqb _ _ c.if-b-eq0.true)

pub returns : goal.returns
returns c =
    let p = c.args.prev in
    rw (ne_eqb _ _ c.if-b-eq0.false) (c.both.ensures ∙ ap (λ t. not (eqb p 0) && t) c.is_identifier.ensures)
