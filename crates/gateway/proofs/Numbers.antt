-- A test's answer as a number. Assumes nothing.
use mathlib.Core.Path.{◌≡◌, refl}
use mathlib.Core.Bool.{Bool, true, false}
use mir.Val.{bool_byte}
use Rattle.gateway.specs.Desk.{as_number}

pub as_number_lem : (b : Bool) → bool_byte b ≡ as_number b
as_number_lem true = refl
as_number_lem false = refl
