-- An optional block in the words of its places: where a field begins, and what is asked of the fields that are selected and of all the
-- rest. Place k is bit k % 8 of bitfield byte k / 8 + 1; `set` tells which bits are set, `entry` what the dictionary has for each place.
-- Definitions alone. Assumes nothing.
use Rattle.std.specs.Prelude.{ℕ, zero, suc, ◌+◌, ◌≤◌, ◌<◌, ◌≡◌, Bool, true, cond, List, take, drop}
use Rattle.kinds.specs.declared.Kind.{Kind}
use Rattle.kinds.specs.Kinds.{agrees_of}
use Rattle.dictionary.specs.declared.Entry.{Entry}
use Rattle.dictionary.specs.declared.Entry.TheVariants.{Refused, Field}
use Rattle.block.specs.Slots.{width_of}

-- 01: an optional field starts at the end of the bitfields plus the summed widths of all earlier set bits. Here the latter, for place k:
-- the widths of the places below k whose bits are set
unfoldable pub widths_before : (ℕ → Bool) → (ℕ → Entry) → ℕ → ℕ
widths_before set entry zero = 0
widths_before set entry (suc k) = widths_before set entry k + cond (set k) (width_of (entry k)) 0

-- every set bit is listed
abbrev pub AllListed : (ℕ → Bool) → (ℕ → Entry) → Type 0
AllListed set entry = (k : ℕ) → set k ≡ true → entry k ≡ Refused → ⊥

-- each selected field of a layout v agrees with its kind
abbrev pub AllAgree : (ℕ → Bool) → (ℕ → Entry) → List ℕ → Type 0
AllAgree set entry v = (k w p : ℕ) (kind : Kind) → set k ≡ true → Field w kind p ≡ entry k → agrees_of kind (take w (drop p v)) ≡ true

-- place i of the layout is in off selected field
abbrev pub Unselected : (ℕ → Bool) → (ℕ → Entry) → ℕ → Type 0
Unselected set entry i = (k w p : ℕ) (kind : Kind) → set k ≡ true → Field w kind p ≡ entry k → p ≤ i → i < p + w → ⊥
