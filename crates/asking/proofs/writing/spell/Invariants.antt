-- The digits of the first `i` bytes stand in the buffer's front, and the rest of it is as it was.
use Rattle.std.proofs.Common.{◌≡◌, ◌*◌, ◌++◌, take, drop}
use Rattle.asking.specs.Spelling.{hex_of}
use Rattle.asking.proofs.writing.spell.Given as goal

abbrev pub invariant-loop-i : goal.invariant-loop-i
invariant-loop-i l = l.out ≡ take (2 * l.i) (hex_of l.s) ++ drop (2 * l.i) l.initial.out
