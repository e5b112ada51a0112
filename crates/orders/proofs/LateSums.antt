-- A second count of the late rules, so that code and definition cannot be changed together unseen: what is answered for every combination of the
-- characters and bits that matter, counted from document 02's sentences. All is computed. Assumes nothing.
use Rattle.std.specs.Prelude.{◌≡◌, refl, List, [], ◌∷◌, ◌++◌, map, ℕ, ◌+◌, ◌-◌}
use Rattle.refusals.specs.Told.{number_in, place_in}
use Rattle.block.specs.Places.{selected_at}
use Rattle.block.specs.Slots.{zeros}
use Rattle.block.specs.Sizes.{layout_size, most_bitfields}
use Rattle.orders.specs.Shapes.{count_at}
use Rattle.orders.specs.Late.{lacks, conflicts, late_refusal}

-- what a function answers to each of some values, in a row
abbrev each : List ℕ → (ℕ → List ℕ) → List ℕ
each [] f = []
each (x ∷ xs) f = f x ++ each xs f

-- ---- Purge Orders

-- the layout: MassCancelInst's first three characters from place 4 on, MatchingUnit at place 56
abbrev purged : ℕ → ℕ → ℕ → ℕ → List ℕ
purged first second third unit = zeros 4 ++ (first ∷ second ∷ third ∷ zeros 49 ++ (unit ∷ zeros (layout_size - 57)))

-- its two bitfields: MassCancelInst (4) is selected; ClearingFirm (1) and MassCancelID (16) are added to the first, Symbol (1) and MatchingUnit (128)
-- to the second
abbrev purge_bits : ℕ → ℕ → ℕ → ℕ → List ℕ
purge_bits firm id symbol unit = (4 + firm + id) ∷ (symbol + unit) ∷ zeros (most_bitfields - 2)

-- eight answers: Symbol off and on, in each MatchingUnit off and on, in each its byte 0 and 3
abbrev eight : ℕ → ℕ → ℕ → ℕ → ℕ → List ℕ
eight first second third firm id =
    each (0 ∷ 1 ∷ []) (λ symbol.
    each (0 ∷ 128 ∷ []) (λ unit.
    map (λ byte. number_in (late_refusal 0x47 2 (purge_bits firm id symbol unit) (purged first second third byte))) (0 ∷ 3 ∷ [])))

-- and four times these: ClearingFirm off and on, in each MassCancelID off and on
abbrev purge : ℕ → ℕ → ℕ → List ℕ
purge first second third = each (0 ∷ 1 ∷ []) (λ firm. each (0 ∷ 16 ∷ []) (λ id. eight first second third firm id))

-- nothing is wrong but Symbol together with a MatchingUnit other than 0; a field is lacking; L without F
abbrev fine : List ℕ
fine = 0 ∷ 0 ∷ 0 ∷ 0 ∷ 0 ∷ 0 ∷ 0 ∷ 23 ∷ []

abbrev lacking : List ℕ
lacking = 9 ∷ 9 ∷ 9 ∷ 9 ∷ 9 ∷ 9 ∷ 9 ∷ 9 ∷ []

abbrev locked : List ℕ
locked = 23 ∷ 23 ∷ 23 ∷ 23 ∷ 23 ∷ 23 ∷ 23 ∷ 23 ∷ []

-- A and F, then M, S and B, then N and L: no firm and no id, the id, the firm, both
pub purge_needs_lem
    : purge 0x41 0x4D 0x4E ++ purge 0x41 0x4D 0x4C ++ purge 0x41 0x53 0x4E ++ purge 0x41 0x53 0x4C ++ purge 0x41 0x42 0x4E ++ purge 0x41 0x42 0x4C
    ++ purge 0x46 0x4D 0x4E ++ purge 0x46 0x4D 0x4C ++ purge 0x46 0x53 0x4E ++ purge 0x46 0x53 0x4C ++ purge 0x46 0x42 0x4E ++ purge 0x46 0x42 0x4C
    ≡ (fine ++ fine ++ fine ++ fine)
    ++ (locked ++ locked ++ locked ++ locked)
    ++ (lacking ++ fine ++ lacking ++ fine)
    ++ (lacking ++ locked ++ lacking ++ locked)
    ++ (lacking ++ fine ++ lacking ++ fine)
    ++ (lacking ++ locked ++ lacking ++ locked)
    ++ (lacking ++ lacking ++ fine ++ fine)
    ++ (lacking ++ lacking ++ fine ++ fine)
    ++ (lacking ++ lacking ++ lacking ++ fine)
    ++ (lacking ++ lacking ++ lacking ++ fine)
    ++ (lacking ++ lacking ++ lacking ++ fine)
    ++ (lacking ++ lacking ++ lacking ++ fine)
unfolding late_refusal lacks conflicts count_at selected_at
purge_needs_lem = refl

-- other characters mean nothing: X, small f, s, b and l, and NUL, which are absent characters
pub other-characters : purge 0x58 0x58 0x58 ++ purge 0x66 0x73 0x6C ++ purge 0x41 0x62 0 ++ purge 0x41 0 0 ≡ fine ++ fine ++ fine ++ fine ++ fine ++ fine ++ fine ++ fine ++ fine ++ fine ++ fine ++ fine ++ fine ++ fine ++ fine ++ fine
unfolding late_refusal lacks conflicts count_at selected_at
other-characters = refl

-- the place is the last bitfield byte, 11 + 2; 23 has none
pub purge-places : map (λ c. place_in (late_refusal 0x47 2 (purge_bits 0 0 0 0) (purged c 0x4D 0x4C 0))) (0x46 ∷ 0x41 ∷ []) ≡ 13 ∷ 0 ∷ []
unfolding late_refusal lacks conflicts count_at selected_at
purge-places = refl

-- ---- Modify Order

-- OrdType is 1, 2, blank or A; in each Price is off and on, and OrdType on; the bitfield holds OrderQty (4), Price (8), OrdType (16)
abbrev modify : List ℕ
modify =
    each (0x31 ∷ 0x32 ∷ 0 ∷ 0x41 ∷ []) (λ type.
    map (λ price. number_in (late_refusal 0x3A 1 ((20 + price) ∷ zeros (most_bitfields - 1)) (zeros 16 ++ (type ∷ zeros (layout_size - 17))))) (0 ∷ 8 ∷ []))

pub modify_needs : modify ≡ (0 ∷ 0 ∷ []) ++ (9 ∷ 0 ∷ []) ++ (9 ∷ 0 ∷ []) ++ (9 ∷ 0 ∷ [])
unfolding late_refusal lacks conflicts count_at selected_at
modify_needs = refl

-- ---- no other message is late, whatever it holds

pub others_are_not : (count : ℕ) (bits slots : List ℕ) → map (λ message. late_refusal message count bits slots) (0x38 ∷ 0xB8 ∷ 0x39 ∷ 0x25 ∷ 0x2C ∷ 0x26 ∷ 0x29 ∷ 0x2B ∷ []) ≡ 0 ∷ 0 ∷ 0 ∷ 0 ∷ 0 ∷ 0 ∷ 0 ∷ 0 ∷ []
unfolding late_refusal lacks conflicts
others_are_not count bits slots = refl
