-- Words: bytes side by side in the lanes of one number, the first lowest. Definitions alone. Assumes nothing.
use Rattle.std.specs.Prelude.{ℕ, zero, suc, ◌+◌, ◌*◌, ◌/◌, ◌%◌, ◌<◌, ◌≡◌, Bool, cond}
use Rattle.kinds.specs.declared.Kind.{Kind}
use Rattle.kinds.specs.declared.Kind.TheVariants.{Letters, Alphanumeric, Text}
use Rattle.kinds.specs.declared.Plain.{Plain}
use Rattle.kinds.specs.declared.Plain.TheVariants.{OfA, OfN, OfT}

-- the kind that a plain kind is
abbrev pub kind_of : Plain → Kind
kind_of OfA = Letters
kind_of OfN = Alphanumeric
kind_of OfT = Text

-- the byte c in each of n lanes
abbrev pub lanes : ℕ → ℕ → ℕ
lanes zero c = 0
lanes (suc n) c = c + 256 * lanes n c

-- a word of n lanes, each below 128
unfoldable pub Low : ℕ → ℕ → Type 0
Low zero y = y ≡ 0
Low (suc n) y = (y % 256 < 128) × Low n (y / 256)

-- 1 for true, 0 for false
abbrev pub bit : Bool → ℕ
bit t = cond t 1 0

-- the highest bit of each of n lanes of g says whether p holds of that lane of y
unfoldable pub Marks : (ℕ → Bool) → ℕ → ℕ → ℕ → Type 0
Marks p zero y g = Unit {0}
Marks p (suc n) y g = (g / 128 % 2 ≡ bit (p (y % 256))) × Marks p n (y / 256) (g / 256)
