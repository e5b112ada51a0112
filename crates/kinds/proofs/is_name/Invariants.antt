use mathlib.Core.Path.{◌≡◌}
use mathlib.Core.Bool.{◌&&◌}
use lib.ListN.{drop}
use Rattle.kinds.specs.declared.Kind.TheVariants.{Identifier}
use Rattle.kinds.specs.Kinds.{agrees_text, steady}
use Rattle.kinds.proofs.is_name.Given as goal

-- each byte that is left follows the one before it and so did those before, if and only if the field agrees with its kind
abbrev pub invariant-loop-byte : goal.invariant-loop-byte
invariant-loop-byte l = (steady l.prev (drop l.byte-index l.s) && l.ok) ≡ agrees_text Identifier l.s
