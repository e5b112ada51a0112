-- `kinds::text_agrees` meets its contract: the words' bytes are the field's, with NUL above where the field has four.
-- Assumes nothing.
use mathlib.Core.Path.{sym, ap, ap₂, ◌∙◌}
use mathlib.Core.List.{◌++◌}
use native.Mathlib.Omega.{arith}
use lib.ListN.{take}
use lib.Seq.{take-add, take_all}
use Rattle.kinds.specs.Kinds.{agrees_text}
use Rattle.kinds.specs.Words.{kind_of}
use Rattle.kinds.proofs.Walk.{tail_is}
use Rattle.kinds.proofs.Joins.{half_is}
use Rattle.kinds.proofs.text_agrees.Goals as goal

pub returns-then-n-eq8 : goal.returns-then-n-eq8
returns-then-n-eq8 c =
    let a = c.args in
    c.word_agrees.ensures ∙ ap (agrees_text (kind_of a.plain)) (c.word.ensures ∙ take_all 8 a.s.now (omega arith))

pub returns-then-n-eq4 : goal.returns-then-n-eq4
returns-then-n-eq4 c =
    let first = c in
    let a = first.args in
    let k = kind_of a.plain in
    c.word_agrees-then-n-eq4.ensures
    ∙ half_is k first.half.result first.half.ensures.1
    ∙ ap (agrees_text k) (first.half.ensures.0 ∙ take_all 4 a.s.now (omega arith))

pub returns-then-n-eq16 : goal.returns-then-n-eq16
returns-then-n-eq16 c =
    let second = c in
    let first = second in
    let a = first.args in
    let s = a.s.now in
    c.pair_agrees.ensures
    ∙ ap (agrees_text (kind_of a.plain))
    (ap₂ ◌++◌ first.word-then-n-eq16.ensures (second.word-then-n-eq16-2.ensures ∙ ap (take 8) (tail_is s 8 (omega arith))) ∙ sym (take-add 8 8 s) ∙ take_all 16 s (omega arith))
