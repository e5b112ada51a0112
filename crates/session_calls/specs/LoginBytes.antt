-- What a desk gives a login, as a caller lends it: 87 bytes. The three names; of acknowledgments, and of executions, whether bitfields are asked for, how
-- many, and 15 of them; the choice of units, its flag, how many, and 32 units. Bytes that are zero after the names ask for no bitfields and give no choice
-- of units. Definitions alone. Assumes nothing.
use Rattle.std.specs.Prelude.{ℕ, zero, suc, ◌+◌, not, List, [], ◌∷◌, eqb, get_or, take, drop}
use Rattle.table.specs.declared.Table.{Table}
use Rattle.table.specs.declared.Unit.{Unit}
use Rattle.session_messages.specs.declared.Record.{Record}
use Rattle.session_logins.specs.declared.Choice.{Choice}
use Rattle.session_logins.specs.declared.Bitfields.{Bitfields}
use Rattle.session_logins.specs.LoginRequests.{login_record}

-- so many bytes
abbrev pub login_size : ℕ
login_size = 87

-- SessionSubID, Username and Password
abbrev pub names_in : List ℕ → List ℕ
names_in g = take 18 g

-- the bitfields of a message type, from a place on: 0 is none asked for
abbrev pub bits_in : ℕ → List ℕ → Bitfields
bits_in at g = record { given = not (eqb (get_or g at 0) 0); count = get_or g (at + 1) 0; bits = take 15 (drop (at + 2) g) }

-- so many units, from a place on
abbrev pub units_from : ℕ → ℕ → List ℕ → List Unit
units_from zero at g = []
units_from (suc k) at g = record { 0 = get_or g at 0 } ∷ units_from k (suc at) g

-- the choice of units: 0 none given, 1 the first `count` of those listed, any other no group of units
abbrev pub choice_in : List ℕ → Choice
choice_in g = record { which = get_or g 52 0; flag = get_or g 53 0; count = get_or g 54 0; units = units_from 32 55 g }

-- the login's record, with the numbers of a table
abbrev pub given_record : Table → List ℕ → Record
given_record table g = login_record table (choice_in g) (names_in g) (bits_in 18 g) (bits_in 35 g)
