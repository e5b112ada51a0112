use lib.ListN.{length, take}
use mathlib.Core.Path.{◌≡◌}
use Rattle.block.specs.Slots.{zeros}
use Rattle.block.proofs.clear.Given as goal

-- the bytes so far are zero
abbrev pub invariant-loop-byte : goal.invariant-loop-byte
invariant-loop-byte l = (take l.byte-index l.byte-items ≡ zeros l.byte-index) × (length l.byte-items ≡ l.n)
