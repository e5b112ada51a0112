-- The first `i` of the bytes stand in the buffer's front, and the rest of it is as it was.
use Rattle.std.proofs.Common.{◌≡◌, ◌++◌, take, drop}
use Rattle.asking.specs.Words.{bytes_in}
use Rattle.asking.proofs.words.put_bytes.Given as goal

abbrev pub invariant-loop-i : goal.invariant-loop-i
invariant-loop-i l = l.out ≡ take l.i (bytes_in l.word) ++ drop l.i l.initial.out
