-- What a word of bytes leaves in the buffer: its bytes where it is taken, and what stood there where it is refused. Assumes nothing.
use Rattle.std.specs.Prelude.{◌≡◌, refl, Bool, true, false, ℕ, ◌/◌, ◌≤◌, length, Some, None}
use Rattle.std.specs.Bool.{then_some}
use Rattle.std.proofs.Common.{sym, le-leb}
use mathlib.Core.List.{List}
use Rattle.numbers.specs.Numbers.{patched}
use Rattle.asking.specs.Words.{bytes_in, is_bytes, fits, run_of, run_buffer}

-- a refused word stores nothing
pub no_bytes : (w out : List ℕ) → fits w (length out) ≡ false → (None ≡ run_of w (length out)) × (out ≡ run_buffer w out)
unfolding run_of run_buffer
no_bytes w out e = (rw e, rw e)

-- REFUSED CHANGES NOTHING: where the answer is none, the buffer is as it was
pub refused_changes_nothing : (w out : List ℕ) → run_of w (length out) ≡ None → run_buffer w out ≡ out
unfolding run_of run_buffer
refused_changes_nothing w out e = by (fits w (length out)) refl e
  where
    by : (b : Bool) → fits w (length out) ≡ b → then_some b (length w / 2) ≡ None → run_buffer w out ≡ out
    by true p q = cc
    by false p q = sym (no_bytes w out p).1

-- and a taken one all its bytes
pub bytes-taken : (w out : List ℕ) {out' : List ℕ} → is_bytes w ≡ true → length w / 2 ≤ length out → out' ≡ patched out 0 (bytes_in w)
    → (Some (length w / 2) ≡ run_of w (length out)) × (out' ≡ run_buffer w out)
unfolding fits run_of run_buffer
bytes-taken w out e h p = (rw (e, le-leb (length w / 2) (length out) h), rw (e, le-leb (length w / 2) (length out) h) p)
