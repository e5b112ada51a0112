-- The states of looking and of giving, as the code holds them. Definitions alone. Assumes nothing.
use Rattle.std.specs.Prelude.{ℕ, ◌*◌, ◌≤◌, ◌≡◌, List, length}
use Rattle.block.specs.Places.{selected_at, byte_at, entry_at}
use Rattle.block.specs.Walk.{walk, Looking, look_entry, Giving, give_entry}
use Rattle.block.specs.Sizes.{layout_size, most_bitfields}
use Rattle.block_write.specs.declared.Seen.{Seen}

-- the struct, field by field, and the layout that is lent
abbrev pub looking : Seen → List ℕ → Looking
looking s rest = record { total = s.total; wrong = s.wrong; bad = s.bad; rest = rest }

-- nothing looked at yet
abbrev pub unseen : List ℕ → Looking
unseen v = record { total = 0; wrong = 0; bad = 0; rest = v }

-- the walk of n places from k on that looks at a layout
abbrev pub look_walk : ℕ → ℕ → List ℕ → ℕ → ℕ → Looking → Looking
look_walk message count bits n k st = walk (selected_at count bits) (λ (i : ℕ). look_entry (byte_at i) (entry_at message i)) n k st

-- what holds between two bytes of the walk, with n of them behind it: the layout has its length, the bitfield bytes are there, and a byte adds at most
-- 2040 to the total
pub record Midway (count : ℕ) (bits : List ℕ) (n total : ℕ) (rest : List ℕ) : Type 0 where
  pub sized : length rest ≡ layout_size
  pub there : count ≤ length bits
  pub few : count ≤ most_bitfields
  pub bound : total ≤ 2040 * n

-- the place, and the buffer that is lent
abbrev pub giving : ℕ → List ℕ → Giving
giving at buffer = record { at = at; buffer = buffer }

-- the walk of n places from k on that gives a layout v
abbrev pub give_walk : ℕ → ℕ → List ℕ → List ℕ → ℕ → ℕ → Giving → Giving
give_walk message count bits v n k st = walk (selected_at count bits) (λ (i : ℕ). give_entry v (entry_at message i)) n k st
