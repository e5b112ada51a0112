-- What a steady scan's answer is at most, as a number. Assumes nothing.
use Rattle.std.specs.Prelude.{◌≡◌, List, ℕ, zero, suc, ◌+◌, ◌≤◌}
use Rattle.std.proofs.Math.Path.{sym}
use Prim.Native.Nat.{zero-le}
use native.Mathlib.Omega.{arith}
use Rattle.session_groups.proofs.GroupLaws.{Steady}

-- a scan's answer is at most its bytes and one
pub steady_small : (most : ℕ) (f : List ℕ → ℕ) → Steady most f → (s : List ℕ) (x : ℕ) → x ≡ f s → x ≤ most + 1
steady_small most f w s zero e = zero-le
steady_small most f w s (suc x) e = let i = w.inside s x (sym e) in omega (arith, i.1)
