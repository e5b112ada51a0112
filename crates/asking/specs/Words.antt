-- The words of a question, as second/README.md gives them: numbers and bytes. Definitions alone. Assumes nothing.
use Rattle.std.specs.Prelude.{ℕ, ◌+◌, ◌-◌, ◌*◌, ◌/◌, ◌%◌, Bool, true, false, cond, ◌&&◌, ◌||◌, List, [], ◌∷◌, Option, eqb, leb, length, get_or}
use Rattle.std.specs.Bool.{then_some}
use Rattle.numbers.specs.Numbers.{patched}

-- ---- words

-- a byte before the words of what follows it: a space ends an empty word, any other byte begins the first word
abbrev pub cut : Bool → ℕ → List (List ℕ) → List (List ℕ)
cut true b ws = [] ∷ ws
cut false b [] = (b ∷ []) ∷ []
cut false b (w ∷ ws) = (b ∷ w) ∷ ws

-- one space between: the words of a line are what it is cut into at each space, and each of them may be empty
unfoldable pub words_of : List ℕ → List (List ℕ)
words_of [] = [] ∷ []
words_of (b ∷ s) = cut (eqb b 32) b (words_of s)

-- the word after k others, empty where there is none
unfoldable pub word_of : ℕ → List ℕ → List ℕ
word_of k s = get_or (words_of s) k []

-- ---- numbers

-- a decimal digit
abbrev pub is_digit : ℕ → Bool
is_digit b = leb 48 b && leb b 57

-- digits alone
unfoldable pub all_digits : List ℕ → Bool
all_digits [] = true
all_digits (b ∷ s) = is_digit b && all_digits s

-- the number of digits that follow those of the number v
unfoldable pub decimal_from : ℕ → List ℕ → ℕ
decimal_from v [] = v
decimal_from v (b ∷ s) = decimal_from (v * 10 + (b - 48)) s

-- NUMBER: one to twenty decimal digits, at most the greatest value that the call takes there
unfoldable pub is_number : List ℕ → ℕ → Bool
is_number w most = leb 1 (length w) && (leb (length w) 20 && (all_digits w && leb (decimal_from 0 w) most))

-- a number's value, and none for what is no number
unfoldable pub number_of : List ℕ → ℕ → Option ℕ
number_of w most = then_some (is_number w most) (decimal_from 0 w)

-- ---- bytes

-- a capital hex digit, and what it counts; 0 for any other byte
abbrev pub is_hex : ℕ → Bool
is_hex b = is_digit b || (leb 65 b && leb b 70)

abbrev pub nibble_of : ℕ → ℕ
nibble_of b = cond (is_hex b) (cond (leb b 57) (b - 48) (b - 55)) 0

-- hex digits alone
unfoldable pub all_hex : List ℕ → Bool
all_hex [] = true
all_hex (b ∷ s) = is_hex b && all_hex s

-- the bytes of pairs of digits; what is left over after the last pair plays no part
unfoldable pub bytes_in : List ℕ → List ℕ
bytes_in [] = []
bytes_in (h ∷ []) = []
bytes_in (h ∷ l ∷ s) = (nibble_of h * 16 + nibble_of l) ∷ bytes_in s

-- BYTES: capital hex, two digits a byte; `-` for no bytes
unfoldable pub is_bytes : List ℕ → Bool
is_bytes w = (eqb (length w) 1 && eqb (get_or w 0 0) 45) || (leb 1 (length w) && (eqb (length w % 2) 0 && all_hex w))

-- such a word, with room for its bytes
unfoldable pub fits : List ℕ → ℕ → Bool
fits w room = is_bytes w && leb (length w / 2) room

-- how many bytes stand in the buffer's front, and none where the word is refused
unfoldable pub run_of : List ℕ → ℕ → Option ℕ
run_of w room = then_some (fits w room) (length w / 2)

-- the buffer after it: a word that is refused changes nothing
unfoldable pub run_buffer : List ℕ → List ℕ → List ℕ
run_buffer w out = cond (fits w (length out)) (patched out 0 (bytes_in w)) out
