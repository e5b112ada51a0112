-- Exactly which bytes are the characters of each kind of text: a second count, computed over all 256 bytes, so that a definition and its code cannot be
-- changed together unseen. The bytes are counted from document 01's words. Assumes nothing.
use Rattle.std.specs.Prelude.{◌≡◌, refl, Bool, cond, List, [], ◌∷◌, ◌++◌, ℕ, zero, suc, ◌+◌, ◌-◌, length}
use Rattle.kinds.specs.declared.Kind.{Kind}
use Rattle.kinds.specs.declared.Kind.TheVariants.{Letters, Alphanumeric, Text, Identifier}
use Rattle.kinds.specs.Kinds.{allowed}

-- n numbers, from a first one on
abbrev run : ℕ → ℕ → List ℕ
run first zero = []
run first (suc n) = first ∷ run (suc first) n

-- the bytes from low to high, both included
abbrev pub span : ℕ → ℕ → List ℕ
span low high = run low (high + 1 - low)

-- those that pass a test
abbrev passing : (ℕ → Bool) → List ℕ → List ℕ
passing test [] = []
passing test (b ∷ bs) = cond (test b) (b ∷ passing test bs) (passing test bs)

-- the characters of a kind: those of the 256 bytes that it allows
abbrev pub characters : Kind → List ℕ
characters k = passing (allowed k) (span 0 255)

pub letter-characters : characters Letters ≡ span 65 90 ++ span 97 122
letter-characters = refl

pub alphanumeric_characters : characters Alphanumeric ≡ span 48 57 ++ span 65 90 ++ span 97 122
alphanumeric_characters = refl

pub text_characters : characters Text ≡ span 32 126
text_characters = refl

-- what five exceptions leave of 33 to 126: double quote is 34, comma 44, semicolon 59, @ 64, pipe 124
pub identifier_characters : characters Identifier ≡ span 33 33 ++ span 35 43 ++ span 45 58 ++ span 60 63 ++ span 65 123 ++ span 125 126
identifier_characters = refl

-- how many each has
pub letters_52 : length (characters Letters) ≡ 52
letters_52 = refl

pub alphanumeric_62 : length (characters Alphanumeric) ≡ 62
alphanumeric_62 = refl

pub text_95 : length (characters Text) ≡ 95
text_95 = refl

pub identifier_89 : length (characters Identifier) ≡ 89
identifier_89 = refl
