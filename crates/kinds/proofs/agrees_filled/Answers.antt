-- `kinds::agrees_filled` meets its contract: a blank field is refused, and for any other the answer of `sized_agrees` is returned. A field of no bytes is
-- blank, and one whose first byte is not NUL is not. Assumes nothing.
use mathlib.Core.Path.{sym, ◌∙◌}
use native.Mathlib.Omega.{arith}
use Rattle.kinds.specs.Kinds.{all_nul}
use Rattle.kinds.proofs.Walk.{nul_no, walk_end}
use Rattle.kinds.proofs.agrees_filled.Goals as goal

pub returns-then-s-eq0 : goal.returns-then-s-eq0
returns-then-s-eq0 c = rw (walk_end all_nul c.args.s.now 0 (omega arith))

pub returns-then-s-ne0 : goal.returns-then-s-ne0
returns-then-s-ne0 c =
    let filled = c in
    let s = filled.args.s.now in
    rw (nul_no s 0 (omega arith) filled.if-s-ne0.true) c.sized_agrees.ensures

pub returns-then-is_blank : goal.returns-then-is_blank
returns-then-is_blank c = rw (sym c.is_blank.ensures ∙ c.if-is_blank.true)

pub returns : goal.returns
returns c = rw (sym c.is_blank.ensures ∙ c.if-is_blank.false) c.sized_agrees-2.ensures
