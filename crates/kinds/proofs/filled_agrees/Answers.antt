-- `kinds::filled_agrees` meets its contract: a field that is not blank is judged as a text. Assumes nothing.
use mathlib.Core.Path.{sym, ◌∙◌}
use Rattle.kinds.proofs.filled_agrees.Goals as goal

pub returns : goal.returns
returns c = rw (sym c.is_blank.ensures ∙ c.if-is_blank.false) c.text_agrees.ensures
