-- `kinds::pair_agrees` meets its contract: a word that ends with NUL is followed by NUL, which is the word 0, and any other by a text.
-- Assumes nothing.
use mathlib.Core.Path.{sym, ap₂, ◌∙◌}
use mathlib.Core.Bool.{◌&&◌}
use Rattle.kinds.specs.Words.{kind_of}
use Rattle.numbers.specs.Numbers.{bytes_of}
use Rattle.kinds.proofs.Joins.{nul_word, word-ends, word_goes_on}
use Rattle.kinds.proofs.pair_agrees.Goals as goal

pub returns-then-x-lt72057594037927936 : goal.returns-then-x-lt72057594037927936
returns-then-x-lt72057594037927936 c =
    let at = c in
    let a = at.args in
    c.both.ensures
    ∙ ap₂ ◌&&◌ c.word_agrees.ensures (sym (nul_word 8 a.y at.ranges.y.fits))
    ∙ sym (word-ends (kind_of a.plain) a.x (bytes_of 8 a.y) at.if-x-lt72057594037927936.true)

pub returns : goal.returns
returns c =
    let at = c in
    let a = at.args in
    c.both-2.ensures
    ∙ ap₂ ◌&&◌ c.word_agrees-2.ensures c.word_agrees-3.ensures
    ∙ sym (word_goes_on (kind_of a.plain) a.x (bytes_of 8 a.y) at.if-x-lt72057594037927936.false at.ranges.x.fits)
