-- What the groups of a login ask for of a unit: the number above which its messages are wanted. Definitions alone. Assumes nothing.
use Rattle.std.specs.Prelude.{cond, List, [], ◌∷◌, ℕ, eqb}
use Rattle.session_groups.specs.Values.{Pair, Group}
use Rattle.session_groups.specs.Values.Group.{units, bits}

-- 01, Session and replay: for a listed unit what is above the listed number; for an unlisted one nothing if the flag is 1 (no number is above the
-- highest), and all if it is 0
abbrev pub asked_of : ℕ → List Pair → ℕ → ℕ
asked_of flag [] u = cond (eqb flag 1) 4294967295 0
asked_of flag (p ∷ ps) u = cond (eqb p.unit u) p.number (asked_of flag ps u)

-- and all if there is no group of units
abbrev pub asked : List Group → ℕ → ℕ
asked [] u = 0
asked (units flag ps ∷ gs) u = asked_of flag ps u
asked (bits type list ∷ gs) u = asked gs u
