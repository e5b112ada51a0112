-- What a refused word answers: no number and no bytes, so nothing that is too great. Assumes nothing.
use Rattle.std.specs.Prelude.{◌≡◌, false, ℕ, ◌≤◌, length, Option, None, IfSome}
use Rattle.std.proofs.Common.{sym, ◌∙◌}
use mathlib.Core.List.{List}
use Rattle.asking.specs.Words.{number_of, fits, run_of, run_buffer}
use Rattle.asking.proofs.StoringLaws.{no_bytes}

-- what is no number is answered so
pub refused_number : (w : List ℕ) (most : ℕ) {r : Option ℕ} → r ≡ None → number_of w most ≡ None → (r ≡ number_of w most) × IfSome r (λ value. value ≤ most)
refused_number w most e n = (e ∙ sym n, rw e tt)

-- as the code has it
pub refused-bytes : (w out : List ℕ) {r : Option ℕ} → r ≡ None → fits w (length out) ≡ false
    → (r ≡ run_of w (length out)) × (out ≡ run_buffer w out) × IfSome r (λ count. count ≤ length out)
refused-bytes w out e n = let b = no_bytes w out n in (e ∙ b.0, b.1, rw e tt)
