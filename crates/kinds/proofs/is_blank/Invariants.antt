use mathlib.Core.Path.{◌≡◌}
use mathlib.Core.Bool.{◌&&◌}
use lib.ListN.{drop}
use Rattle.kinds.specs.Kinds.{all_nul}
use Rattle.kinds.proofs.is_blank.Given as goal

-- the bytes that are left are all NUL and those before were, if and only if the whole field is
abbrev pub invariant-loop-byte : goal.invariant-loop-byte
invariant-loop-byte l = (all_nul (drop l.byte-index l.s) && l.ok) ≡ all_nul l.s
