-- `kinds::marks` meets its contract: in each arm the kind is known, and its marks are those of the letters, of two sums, or of both.
-- Assumes nothing.
use native.Mathlib.Omega.{arith}
use Rattle.kinds.proofs.Lanes.{low-le}
use Rattle.kinds.proofs.Characters.{alphanumeric_marked, text_marked}
use Rattle.kinds.proofs.marks.Goals as goal

pub between-requires : goal.between-requires
between-requires c = let start = c in (low-le 8 start.args.y start.requires, omega arith, omega arith)

pub between-requires-in-OfT : goal.between-requires-in-OfT
between-requires-in-OfT c = let start = c in (low-le 8 start.args.y start.requires, omega arith, omega arith)

pub returns-in-OfA : goal.returns-in-OfA
returns-in-OfA c = rw c.in-OfA.is c.letters.ensures

pub returns-in-OfN : goal.returns-in-OfN
returns-in-OfN c =
    let known = c in
    rw (known.in-OfN.is, c.between.ensures)
    (alphanumeric_marked 8 known.args.y known.requires c.letters-in-OfN.result c.letters-in-OfN.ensures)

pub returns-in-OfT : goal.returns-in-OfT
returns-in-OfT c =
    let known = c in
    rw (known.in-OfT.is, c.between-in-OfT.ensures) (text_marked 8 known.args.y known.requires)
