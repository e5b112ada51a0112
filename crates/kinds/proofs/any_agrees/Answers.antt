-- `kinds::any_agrees` meets its contract: a field whose last byte is not NUL agrees where the kind allows all its bytes, and any other is tested word after
-- word. Assumes nothing.
use mathlib.Core.Path.{sym, ◌∙◌}
use Rattle.kinds.specs.Words.{kind_of}
use Rattle.kinds.proofs.Characters.{nul_no_character}
use Rattle.kinds.proofs.Joins.{full_text}
use Rattle.kinds.proofs.any_agrees.Goals as goal

pub returns-then-s-ne0-2 : goal.returns-then-s-ne0-2
returns-then-s-ne0-2 c =
    let at = c in
    let a = at.args in
    c.full_agrees.ensures ∙ sym (full_text (kind_of a.plain) (nul_no_character a.plain) a.s.now at.if-s-ne0-2.true)
