-- `kinds::letters` meets its contract: with bit 5 set a capital letter is its small one, and the small letters are those that 31 lifts to 128 and
-- 5 does not. Assumes nothing.
use mathlib.Core.Path.{sym, subst}
use native.Mathlib.Omega.{arith}
use lib.Bits.{bit_or}
use Rattle.kinds.specs.Kinds.{letter}
use Rattle.kinds.specs.Words.{Marks, lanes}
use Rattle.kinds.proofs.Lanes.{low-le, low_small}
use Rattle.kinds.proofs.Characters.{letters_marked}
use Rattle.kinds.proofs.letters.Goals as goal

pub between-requires : goal.between-requires
between-requires c = let y = c.args.y in (low-le 8 (bit_or y (lanes 8 32)) (low_small 8 y c.requires), omega arith, omega arith)

pub returns : goal.returns
returns c = let y = c.args.y in subst (Marks letter 8 y) (sym c.between.ensures) (letters_marked 8 y c.requires)
