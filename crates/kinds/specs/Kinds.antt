-- The data kinds of fields. Definitions alone. Assumes nothing.
use Rattle.std.specs.Prelude.{ℕ, Bool, true, false, cond, not, ◌&&◌, ◌||◌, List, [], ◌∷◌, leb, eqb, length}
use Rattle.numbers.specs.Numbers.{number_at}
use Rattle.calendar.specs.Calendar.{is_day}
use Rattle.kinds.specs.declared.Kind.{Kind}
use Rattle.kinds.specs.declared.Kind.TheVariants.{Letters, Alphanumeric, Text, Identifier, Binary, Price, FilledText, Day}

-- a byte from low to high, both included
abbrev pub within : ℕ → ℕ → ℕ → Bool
within low high b = leb low b && leb b high

-- the letters A to Z and a to z
abbrev pub letter : ℕ → Bool
letter b = within 65 90 b || within 97 122 b

-- the digits 0 to 9
abbrev pub digit : ℕ → Bool
digit b = within 48 57 b

-- the five characters that 01 excepts, each with its byte: the comma `,`
abbrev pub comma : ℕ
comma = 44

-- the semicolon `;`
abbrev pub semicolon : ℕ
semicolon = 59

-- the pipe `|`
abbrev pub pipe : ℕ
pipe = 124

-- the at sign `@`
abbrev pub at_sign : ℕ
at_sign = 64

-- the double quote `"`
abbrev pub double_quote : ℕ
double_quote = 34

-- 01, Wire basics: comma, semicolon, pipe, @ and double quote
abbrev pub excepted : ℕ → Bool
excepted b = eqb b comma || eqb b semicolon || eqb b pipe || eqb b at_sign || eqb b double_quote

-- 01, Wire basics: A is letters, N letters and digits, T the bytes 32 to 126; the identifiers use the bytes 33 to 126 except these five;
-- B and P take any value. 02, request 1: MassCancelInst is T, and a blank one is refused. Request 4: a maturity is a calendar day, a number and no
-- text, so it has no characters.
abbrev pub allowed : Kind → ℕ → Bool
allowed Letters b = letter b
allowed Alphanumeric b = digit b || letter b
allowed Text b = within 32 126 b
allowed Identifier b = within 33 126 b && not (excepted b)
allowed Binary b = true
allowed Price b = true
allowed FilledText b = within 32 126 b
allowed Day b = false

-- whether a blank field agrees with a kind
abbrev pub blank_taken : Kind → Bool
blank_taken Letters = true
blank_taken Alphanumeric = true
blank_taken Text = true
blank_taken Identifier = true
blank_taken Binary = true
blank_taken Price = true
blank_taken FilledText = false
blank_taken Day = false

-- an all-NUL field is blank
abbrev pub all_nul : List ℕ → Bool
all_nul [] = true
all_nul (b ∷ bs) = eqb b 0 && all_nul bs

-- after its first NUL all bytes of a text field are NUL; a blank one is allowed
abbrev pub agrees_text : Kind → List ℕ → Bool
agrees_text k [] = true
agrees_text k (b ∷ bs) = cond (eqb b 0) (all_nul bs) (allowed k b && agrees_text k bs)

-- whether a field's bytes agree with its kind. 02, request 4: a day is one of those under 19, as a number of four bytes; 0 is none
abbrev pub agrees_of : Kind → List ℕ → Bool
agrees_of Letters bs = agrees_text Letters bs
agrees_of Alphanumeric bs = agrees_text Alphanumeric bs
agrees_of Text bs = agrees_text Text bs
agrees_of Identifier bs = agrees_text Identifier bs
agrees_of Binary bs = true
agrees_of Price bs = true
agrees_of FilledText bs = not (all_nul bs) && agrees_text Text bs
agrees_of Day bs = eqb (length bs) 4 && is_day (number_at 4 0 bs)

-- never blank: some byte is not NUL, and the bytes agree with the kind
abbrev pub agrees_filled_of : Kind → List ℕ → Bool
agrees_filled_of k bs = not (all_nul bs) && agrees_of k bs

-- ---- the same tests as the code makes them, which never stops early

-- a kind allows every byte
abbrev pub all_allowed : Kind → List ℕ → Bool
all_allowed k [] = true
all_allowed k (b ∷ bs) = allowed k b && all_allowed k bs

-- a byte b of an identifier may stand after a byte p: NUL after any, a character after any but NUL
abbrev pub follows : ℕ → ℕ → Bool
follows p b = eqb b 0 || (not (eqb p 0) && allowed Identifier b)

-- each byte of an identifier follows the one before it, and the first follows p
abbrev pub steady : ℕ → List ℕ → Bool
steady p [] = true
steady p (b ∷ bs) = follows p b && steady b bs
