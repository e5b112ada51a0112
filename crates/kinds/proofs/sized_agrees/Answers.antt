-- `kinds::sized_agrees` meets its contract: a field of one byte is tested by itself; else in each arm the kind is known, and the definition is what
-- the function called there ensures, or true. Assumes nothing.
use mathlib.Core.Path.{sym, ap, ◌∙◌}
use native.Mathlib.Omega.{arith}
use Rattle.kinds.specs.Kinds.{agrees_of}
use Rattle.kinds.proofs.KindLaws.{one_agrees, one_byte}
use Rattle.kinds.proofs.sized_agrees.Goals as goal

pub returns-then-n-eq1 : goal.returns-then-n-eq1
returns-then-n-eq1 c =
    let start = c in
    let a = start.args in
    c.agrees_one.ensures ∙ sym (ap (agrees_of a.kind) (one_byte a.s.now (omega arith)) ∙ one_agrees a.kind _)

pub returns-in-Letters : goal.returns-in-Letters
returns-in-Letters c = rw c.in-Letters.is c.text_agrees.ensures

pub returns-in-Alphanumeric : goal.returns-in-Alphanumeric
returns-in-Alphanumeric c = rw c.in-Alphanumeric.is c.text_agrees-in-Alphanumeric.ensures

pub returns-in-Text : goal.returns-in-Text
returns-in-Text c = rw c.in-Text.is c.text_agrees-in-Text.ensures

pub returns-in-FilledText : goal.returns-in-FilledText
returns-in-FilledText c = rw c.in-FilledText.is c.filled_agrees.ensures

pub returns-in-Day : goal.returns-in-Day
returns-in-Day c = rw c.in-Day.is c.day_agrees.ensures
