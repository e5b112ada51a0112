-- A text at a place of a buffer. Definitions alone. Assumes nothing.
use Rattle.std.specs.Prelude.{ℕ, List, take, drop}

-- so many bytes from a place on
abbrev pub text_at : ℕ → ℕ → List ℕ → List ℕ
text_at n i s = take n (drop i s)
