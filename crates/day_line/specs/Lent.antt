-- A buffer that is lent for bytes that are kept: the kept bytes stand in its front, and what a call leaves there is kept after it.
-- Assumes nothing.
use Rattle.std.specs.Prelude.{ℕ, ◌+◌, ◌≤◌, ◌<◌, ◌≡◌, List, ◌++◌, length, take, drop}
use Rattle.std.proofs.Common.{⊎_elim, ap, ◌∙◌, arith, length-append, take-append-drop, length-take-le, take-take}
use Rattle.std.proofs.Math.Seq.{take-length, take-append_seam}
use Rattle.std.proofs.lemmas.List.{take-append-le}
use Rattle.numbers.specs.Numbers.{patched}
use Rattle.numbers.specs.NumberLaws.{patched-length, patched-take}
use Rattle.wire.proofs.FrameLaws.{lt_or_le}
use Rattle.block.specs.Slots.{zeros}
use Rattle.block.specs.SlotLaws.{length-zeros}

-- a buffer of so many bytes, with the kept bytes in its front as far as it reaches, and zeros after them: what stands there plays no part
-- (session/proofs/AnyRest.antt)
abbrev pub lent : ℕ → List ℕ → List ℕ
lent room bytes = take room (bytes ++ zeros room)

-- n bytes kept after a call: of what stands in the buffer, and of what was not lent
abbrev pub kept : ℕ → ℕ → List ℕ → List ℕ → List ℕ
kept n room buffer bytes = take n (buffer ++ drop room bytes)

module _ (room : ℕ) (bytes : List ℕ) where
  pub lent_long : length (lent room bytes) ≡ room
  lent_long = length-take-le room (bytes ++ zeros room) (omega (arith, length-append bytes (zeros room), length-zeros room))

  lent-front : length bytes ≤ room → take (length bytes) (lent room bytes) ≡ bytes
  lent-front h = take-take (length bytes) room (bytes ++ zeros room) h ∙ take-append_seam bytes (zeros room)

  -- a buffer that a call left as it was
  pub kept_same : kept (length bytes) room (lent room bytes) bytes ≡ bytes
  kept_same =
      ⊎_elim
      (λ (h : room < length bytes).
      ap (λ (l : List ℕ). take (length bytes) (l ++ drop room bytes)) (take-append-le room bytes (zeros room) (omega arith))
      ∙ ap (take (length bytes)) (take-append-drop room bytes) ∙ take-length bytes)
      (λ (h : length bytes ≤ room).
      take-append-le (length bytes) (lent room bytes) (drop room bytes) (omega (arith, lent_long)) ∙ lent-front h)
      (lt_or_le room (length bytes))

  -- one in which bytes were put at the end of what was kept
  pub kept_more : (m : List ℕ) → length bytes + length m ≤ room → kept (length bytes + length m) room (patched (lent room bytes) (length bytes) m) bytes ≡ bytes ++ m
  kept_more m h =
      let l : length bytes + length m ≤ length (lent room bytes) = omega (arith, lent_long) in
      take-append-le (length bytes + length m) (patched (lent room bytes) (length bytes) m) (drop room bytes) (omega (arith, patched-length (lent room bytes) (length bytes) m l))
      ∙ patched-take (lent room bytes) (length bytes) m l
      ∙ ap (λ (x : List ℕ). x ++ m) (lent-front (omega arith))
