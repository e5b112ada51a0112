use mathlib.Core.Path.{◌≡◌}
use Prim.Native.Nat.{ℕ, ◌<◌}
use lib.ListN.{length, get_or}
use Rattle.kinds.specs.Kinds.{agrees_text}
use Rattle.kinds.specs.Words.{kind_of}
use Rattle.kinds.proofs.long_agrees.Given as goal

-- what is left agrees with the kind if and only if the whole field does, and is bytes
abbrev pub invariant-loop-rest : goal.invariant-loop-rest
invariant-loop-rest l = (agrees_text (kind_of l.plain) l.rest ≡ agrees_text (kind_of l.plain) l.s) × ((j : ℕ) → get_or l.rest j 0 < 256)

abbrev pub decreases-loop-rest : goal.decreases-loop-rest
decreases-loop-rest l = length l.rest
