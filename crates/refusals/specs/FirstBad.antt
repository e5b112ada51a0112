-- Fields that are tested one after the other, each with its place in the message: the first that is bad is told. Definitions alone. Assumes nothing.
use Rattle.std.specs.Prelude.{ℕ, leb, Bool, true, cond, ◌&&◌, List, [], ◌∷◌}

-- a field: where it stands in the message, and whether its value is good
pub record Tested : Type 0 where
  pub place : ℕ
  pub good : Bool

abbrev pub tested : ℕ → Bool → Tested
tested place good = record { place = place; good = good }

-- whether all are good
abbrev pub all_good : List Tested → Bool
all_good [] = true
all_good (t ∷ ts) = t.good && all_good ts

-- 10: the place of the first that is not; 0 where all are
abbrev pub first_bad : List Tested → ℕ
first_bad [] = 0
first_bad (t ∷ ts) = cond t.good (first_bad ts) t.place

-- whether all places are from one number to another
abbrev pub places_within : ℕ → ℕ → List Tested → Bool
places_within least most [] = true
places_within least most (t ∷ ts) = (leb least t.place && leb t.place most) && places_within least most ts
