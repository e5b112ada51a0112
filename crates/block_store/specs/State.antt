-- The state of storing, as the code holds it. Definitions alone. Assumes nothing.
use Rattle.std.specs.Prelude.{ℕ, List}
use Rattle.block.specs.Places.{selected_at, entry_at}
use Rattle.block.specs.Walk.{walk, Storing, store_entry}

-- the place, and the layout that is lent
abbrev pub storing : ℕ → List ℕ → Storing
storing at layout = record { at = at; layout = layout }

-- the walk of n places from k on that stores a message's optional bytes m
abbrev pub store_walk : ℕ → ℕ → List ℕ → List ℕ → ℕ → ℕ → Storing → Storing
store_walk message count bits m n k st = walk (selected_at count bits) (λ (i : ℕ). store_entry m (entry_at message i)) n k st
