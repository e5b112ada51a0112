-- The stages of the reader and of the writer, as their functions have them. Definitions alone. Assumes nothing.
use Rattle.std.specs.Prelude.{ℕ, cond, List, eqb, ltb, length}
use Rattle.refusals.specs.Names.{no_room}
use Rattle.numbers.specs.Numbers.{patched}

-- a message's refusal, and after it 13 for a buffer under its record's size
unfoldable pub placed_refusal : ℕ → ℕ → ℕ → ℕ
placed_refusal refusal size room = cond (eqb refusal 0) (cond (ltb room size) no_room 0) refusal

-- the buffer after that: as it was, or with the record's bytes in its front
unfoldable pub placed_record : ℕ → ℕ → List ℕ → List ℕ → List ℕ
placed_record refusal size bytes buffer = cond (eqb (placed_refusal refusal size (length buffer)) 0) (patched buffer 0 bytes) buffer

-- 13 for a record under its type's size, and after it its own refusal
unfoldable pub size_refusal : ℕ → ℕ → ℕ → ℕ
size_refusal size long refusal = cond (ltb long size) no_room refusal

-- the output buffer after that: as it was, or as the record's own writing leaves it
unfoldable pub size_out : ℕ → ℕ → List ℕ → List ℕ → List ℕ
size_out size long after out = cond (ltb long size) out after
