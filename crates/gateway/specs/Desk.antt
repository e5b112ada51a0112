-- What C is told of the pulse and of the version. Definitions alone. Assumes nothing.
use Rattle.std.specs.Prelude.{ℕ, Bool, true, false}

-- 1 for what is so
abbrev pub as_number : Bool → ℕ
as_number true = 1
as_number false = 0

-- the version of the calls and of include/boe.h, which has the same number; each change of a call or a layout raises it
abbrev pub version_number : ℕ
version_number = 1
