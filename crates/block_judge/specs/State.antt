-- The state of judging, as the code holds it. Definitions alone. Assumes nothing.
use Rattle.std.specs.Prelude.{ℕ, ◌-◌, Bool, false, List, eqb, take, drop}
use Rattle.kinds.specs.Kinds.{all_nul}
use Rattle.block.specs.Places.{selected_at, byte_at, entry_at}
use Rattle.block.specs.Walk.{pick, walk, Judging, judge_entry}
use Rattle.block_judge.specs.declared.Judged.{Judged}

-- the struct, field by field
abbrev pub judging : Judged → Judging
judging t = record { at = t.at; wrong = t.wrong; bad = t.bad }

-- nothing judged yet
abbrev pub begun : Judging
begun = record { at = 0; wrong = 0; bad = 0 }

-- the walk of n places from k on that judges a message's optional bytes m
abbrev pub judge_walk : ℕ → ℕ → List ℕ → List ℕ → ℕ → ℕ → Judging → Judging
judge_walk message count bits m n k st = walk (selected_at count bits) (λ (i : ℕ). judge_entry m (byte_at i) (entry_at message i)) n k st

-- whether the bitfield bytes after the first k are blank
abbrev pub blank_after : ℕ → ℕ → List ℕ → Bool
blank_after k count bits = all_nul (take (count - k) (drop k bits))

-- whether a message's bitfield bytes after the last that it lists are blank; of a type that lists none, no
abbrev pub plain : ℕ → ℕ → List ℕ → Bool
plain message count bits =
    pick (eqb message 0x38) (blank_after 10 count bits)
    (pick (eqb message 0x39) (blank_after 1 count bits)
    (pick (eqb message 0x25) (blank_after 5 count bits)
    (pick (eqb message 0x2C) (blank_after 3 count bits) false)))
