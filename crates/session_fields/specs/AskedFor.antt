-- What a Login Request asks for of a unit. Definitions alone. Assumes nothing.
use Rattle.std.specs.Prelude.{ℕ, cond, eqb, Option, option_map, unwrap_or}
use Rattle.table.specs.declared.UnitNumber.{UnitNumber}
use Rattle.session_messages.specs.declared.Record.{Record}
use Rattle.session_fields.specs.SessionFields.{request_group, group_flag, group_listed}

-- where its group of units stands
abbrev pub units_at : Record → Option ℕ
units_at r = request_group 0x80 0 r

-- its flag: 0 where no group of units came
abbrev pub flag_of : Record → ℕ
flag_of r = unwrap_or (group_flag (units_at r) r) 0

-- what a flag asks for of a unit that is not listed: nothing if it is 1 (no number is above the highest), else all
abbrev pub unlisted_above : ℕ → ℕ
unlisted_above flag = cond (eqb flag 1) 4294967295 0

-- the listed number, or else another
abbrev pub or_listed : Option UnitNumber → ℕ → ℕ
or_listed listed other = unwrap_or (option_map (λ n. n.0) listed) other

-- the number above which a unit's messages are wanted. 01, Session and replay: for a listed unit what is above the listed number; for an unlisted one
-- nothing if the flag is 1, and all if it is 0 or no group of units came
unfoldable pub asked_above : Record → ℕ → ℕ
asked_above r unit = or_listed (group_listed (units_at r) unit r) (unlisted_above (flag_of r))
