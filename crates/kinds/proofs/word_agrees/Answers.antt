-- `kinds::word_agrees` meets its contract: the lanes with a flaw are none exactly where the bytes agree with the kind, by the law of the word's test.
-- Assumes nothing.
use Prim.Native.Nat.{◌≤◌}
use native.Mathlib.Omega.{arith}
use lib.Bits.{bit_and, and_le_r}
use Rattle.kinds.specs.Words.{kind_of, lanes}
use Rattle.kinds.proofs.Lanes.{low_seven}
use Rattle.kinds.proofs.Characters.{nul_no_character, high_no_character}
use Rattle.kinds.proofs.WordTest.{flaws, filled, word_text}
use Rattle.kinds.proofs.word_agrees.Goals as goal

pub marks-good-requires : goal.marks-good-requires
marks-good-requires c = low_seven 8 c.args.x

pub overflow_add-filled : goal.overflow_add-filled
overflow_add-filled c =
    let x = c.args.x in
    let l : bit_and x (lanes 8 127) ≤ lanes 8 127 = and_le_r x (lanes 8 127) in
    omega arith

pub returns : goal.returns
unfolding flaws filled
returns c =
    let a = c.args in
    word_text (kind_of a.plain) (nul_no_character a.plain) (high_no_character a.plain) 8 a.x c.marks-good.result c.marks-good.ensures
