-- What an arm of a message's `match` on byte and bit answers is what the message's list says: a law for each kind of arm, over any message.
-- At a listed bit the list is computed with the arm's own numbers; in an arm of all other numbers the list has no such line, by induction on it.
-- A message's proof says `search arms` for each arm: the search finds the law, and its facts among what the arm is told. Assumes nothing.
use Prim.Native.Nat.{ℕ, ◌+◌}
use mathlib.Core.Bool.{Bool, true, false, cond, ◌&&◌}
use mathlib.Core.List.{List, [], ◌∷◌, ◌++◌}
use mathlib.Core.Path.{◌≡◌, refl, sym, ap, ◌∙◌}
use lib.Dec.{eqb}
use lib.ListN.{length, drop}
use borrow.Author.Tests.{eqb-true, ne_eqb}
use Rattle.kinds.specs.declared.Kind.{Kind}
use Rattle.dictionary.specs.declared.Entry.{Entry}
use Rattle.dictionary.specs.declared.Entry.TheVariants.{Refused, Field}
use Rattle.dictionary.specs.Dictionary.{Line, line, list_of, pick, index_of, lookup, entry_of}

-- the answer to a call that asks nothing
pub free : {A B : Type 0} → A → B → Unit {0}
free a b = tt

-- what the last arm of a `match` is told: A, and that x is none of the arms' numbers
abbrev pub Other : Type 0 → List ℕ → ℕ → Type 0
Other A [] x = A
Other A (n ∷ ns) x = Other (A × (x ≡ n → ⊥)) ns x

-- A is among it
told : (A : Type 0) (ns : List ℕ) (x : ℕ) → Other A ns x → A
told A [] x h = h
told A (n ∷ ns) x h = (told (A × (x ≡ n → ⊥)) ns x h).0

-- the bits that a list has in a byte, in its order
abbrev pub bits_of : ℕ → List Line → List ℕ
bits_of byte [] = []
bits_of byte (line b t w k ∷ ls) = cond (eqb byte b) (index_of t ∷ bits_of byte ls) (bits_of byte ls)

-- a bit that the list does not have in the byte is refused
no_bit : (A : Type 0) (ls : List Line) (place byte bit : ℕ) → Other A (bits_of byte ls) bit → Refused ≡ lookup ls place byte bit
no_bit A [] place byte bit h = refl
no_bit A (line b t w k ∷ ls) place byte bit h = by (eqb byte b) (λ B. no_bit B ls (place + w) byte bit) h
  where
    by : (same : Bool) → ((B : Type 0) → Other B (bits_of byte ls) bit → Refused ≡ lookup ls (place + w) byte bit)
        → Other A (cond same (index_of t ∷ bits_of byte ls) (bits_of byte ls)) bit
        → Refused ≡ pick (same && eqb bit (index_of t)) (Field w k place) (lookup ls (place + w) byte bit)
    by true rest h = rw (ne_eqb bit (index_of t) (told (A × (bit ≡ index_of t → ⊥)) (bits_of byte ls) bit h).1) (rest _ h)
    by false rest h = rest A h

-- the bytes that a list has, each once where its lines stand together: after a byte, and from the start
abbrev pub bytes_after : ℕ → List Line → List ℕ
bytes_after last [] = []
bytes_after last (line b t w k ∷ ls) = cond (eqb last b) (bytes_after last ls) (b ∷ bytes_after b ls)

abbrev pub bytes_of : List Line → List ℕ
bytes_of [] = []
bytes_of (line b t w k ∷ ls) = b ∷ bytes_after b ls

-- a byte that the list does not have is refused: after a byte, and from the start
no_byte_after : (A : Type 0) (last : ℕ) (ls : List Line) (place byte bit : ℕ) → Other (A × (byte ≡ last → ⊥)) (bytes_after last ls) byte
    → Refused ≡ lookup ls place byte bit
no_byte_after A last [] place byte bit h = refl
no_byte_after A last (line b t w k ∷ ls) place byte bit h =
    by (eqb last b) refl (λ B l. no_byte_after B l ls (place + w) byte bit) h
  where
    by : (same : Bool) → eqb last b ≡ same
        → ((B : Type 0) (l : ℕ) → Other (B × (byte ≡ l → ⊥)) (bytes_after l ls) byte → Refused ≡ lookup ls (place + w) byte bit)
        → Other (A × (byte ≡ last → ⊥)) (cond same (bytes_after last ls) (b ∷ bytes_after b ls)) byte
        → Refused ≡ pick (eqb byte b && eqb bit (index_of t)) (Field w k place) (lookup ls (place + w) byte bit)
    by true e rest h =
        rw (ne_eqb byte b (λ q. (told (A × (byte ≡ last → ⊥)) (bytes_after last ls) byte h).1 (q ∙ sym (eqb-true last b e)))) (rest A last h)
    by false e rest h =
        rw (ne_eqb byte b (told ((A × (byte ≡ last → ⊥)) × (byte ≡ b → ⊥)) (bytes_after b ls) byte h).1) (rest (A × (byte ≡ last → ⊥)) b h)

no_byte : (A : Type 0) (ls : List Line) (place byte bit : ℕ) → Other A (bytes_of ls) byte → Refused ≡ lookup ls place byte bit
no_byte A [] place byte bit h = refl
no_byte A (line b t w k ∷ ls) place byte bit h =
    rw (ne_eqb byte b (told (A × (byte ≡ b → ⊥)) (bytes_after b ls) byte h).1) (no_byte_after A b ls (place + w) byte bit h)

-- lines at the end of a list that do not have a bit change nothing
before_others : (ls more : List Line) (place byte bit : ℕ) → ((p : ℕ) → Refused ≡ lookup more p byte bit)
    → lookup ls place byte bit ≡ lookup (ls ++ more) place byte bit
before_others [] more place byte bit h = h place
before_others (line b t w k ∷ ls) more place byte bit h =
    ap (pick (eqb byte b && eqb bit (index_of t)) (Field w k place)) (before_others ls more (place + w) byte bit h)

-- an arm of a listed bit
pub listed : (message b t : ℕ) {byte bit w p : ℕ} {k : Kind} {e : Entry} → byte ≡ b → bit ≡ t → e ≡ Field w k p
    → Field w k p ≡ lookup (list_of message) 0 b t → e ≡ entry_of message byte bit
unfolding entry_of
listed message b t hb ht he h = rw (hb, ht) (he ∙ h)

-- a listed byte's arm of all other bits
pub unlisted : (message b byte bit : ℕ) → byte ≡ b → Other (Unit {0}) (bits_of b (list_of message)) bit → Refused ≡ entry_of message byte bit
unfolding entry_of
unlisted message b byte bit e h = rw e (no_bit (Unit {0}) (list_of message) 0 b bit h)

-- the arm of all other bytes
pub outside : (message byte bit : ℕ) → Other (Unit {0}) (bytes_of (list_of message)) byte → Refused ≡ entry_of message byte bit
unfolding entry_of
outside message byte bit h = no_byte (Unit {0}) (list_of message) 0 byte bit h

-- the lines that a message's list has after another's
abbrev pub besides : ℕ → ℕ → List Line
besides message other = drop (length (list_of other)) (list_of message)

-- the arm of all other bytes in a message that shares them with another, whose list its own begins with
pub shared : (message other byte bit : ℕ) {e : Entry} → e ≡ entry_of other byte bit → list_of other ++ besides message other ≡ list_of message
    → Other (Unit {0}) (bytes_of (besides message other)) byte → e ≡ entry_of message byte bit
unfolding entry_of
shared message other byte bit e same h =
    e ∙ before_others (list_of other) (besides message other) 0 byte bit (λ p. no_byte (Unit {0}) (besides message other) p byte bit h)
    ∙ ap (λ (ls : List Line). lookup ls 0 byte bit) same

-- the laws together
pub ruleset arms = (listed, unlisted, outside, shared)
