-- The values of a session message's fixed part that have a test, in message order, each with its place in the message. Definitions alone. Assumes
-- nothing.
use Rattle.std.specs.Prelude.{ℕ, cond, ◌||◌, List, [], ◌∷◌, eqb, get_or, take, drop}
use Rattle.refusals.specs.Names.{bad_value}
use Rattle.refusals.specs.Told.{told}
use Rattle.refusals.specs.FirstBad.{Tested, tested, first_bad}
use Rattle.kinds.specs.declared.Kind.TheVariants.{Alphanumeric, Text}
use Rattle.kinds.specs.Kinds.{agrees_of}

-- the body b begins at byte 10 of the message.
-- Login Request: SessionSubID at 10, Username at 14, Password at 18
abbrev pub name_fields : List ℕ → List Tested
name_fields b =
    tested 10 (agrees_of Alphanumeric (take 4 b))
    ∷ tested 14 (agrees_of Alphanumeric (take 4 (drop 4 b)))
    ∷ tested 18 (agrees_of Alphanumeric (take 10 (drop 8 b)))
    ∷ []

-- Login Response: LoginResponseStatus at 10, LoginResponseText at 11
abbrev pub status_fields : List ℕ → List Tested
status_fields b = tested 10 (agrees_of Alphanumeric (take 1 b)) ∷ tested 11 (agrees_of Text (take 60 (drop 1 b))) ∷ []

-- Logout: LogoutReason at 10, LogoutReasonText at 11
abbrev pub reason_fields : List ℕ → List Tested
reason_fields b =
    tested 10 (eqb (get_or b 0 0) 33 || agrees_of Alphanumeric (take 1 b))
    ∷ tested 11 (agrees_of Text (take 60 (drop 1 b)))
    ∷ []

-- the last of both, by itself
abbrev pub text_wrong : List ℕ → ℕ
text_wrong b = cond (agrees_of Text (take 60 (drop 1 b))) 0 11

-- those of a message of the type
unfoldable pub value_fields : ℕ → List ℕ → List Tested
value_fields message b =
    cond (eqb message 0x37) (name_fields b)
    (cond (eqb message 0x24) (status_fields b)
    (cond (eqb message 0x08) (reason_fields b)
    []))

-- 10: the place of the first that is bad; 0 where none is
unfoldable pub values_wrong : ℕ → List ℕ → ℕ
values_wrong message b = first_bad (value_fields message b)

-- 02, request 3: 10 with that place, where there is one
unfoldable pub told_bad : ℕ → ℕ
told_bad place = cond (eqb place 0) 0 (told bad_value place)
