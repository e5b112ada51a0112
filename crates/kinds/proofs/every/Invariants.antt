use mathlib.Core.Path.{◌≡◌}
use mathlib.Core.Bool.{◌&&◌}
use lib.ListN.{drop}
use Rattle.kinds.specs.Kinds.{all_allowed}
use Rattle.kinds.proofs.every.Given as goal

-- the kind allows the bytes that are left and allowed those before, if and only if it allows all of them
abbrev pub invariant-loop-byte : goal.invariant-loop-byte
invariant-loop-byte l = (all_allowed l.kind (drop l.byte-index l.s) && l.ok) ≡ all_allowed l.kind l.s
