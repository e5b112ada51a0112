-- A buffer that bytes are put into one after the other, from its front on. Assumes nothing.
use mathlib.Core.Path.{◌≡◌}
use mathlib.Core.List.{List, ◌++◌}
use Prim.Native.Nat.{ℕ, suc, ◌+◌, ◌<◌}
use native.Mathlib.Numerals.{add-one}
use native.Mathlib.Omega.{arith}
use lib.ListN.{length, take, drop, get_or, set}
use lib.Seq.{take_all, paste-suc}
use Rattle.numbers.specs.Numbers.{patched}

-- one more stands there
pub one_more : (s d : List ℕ) (i : ℕ) {v : ℕ} → i < length s → i < length d → v ≡ get_or s i 0 → set (take i s ++ drop i d) i v ≡ take (i + 1) s ++ drop (i + 1) d
one_more s d i {v} hs hd e =
    let z : 0 + i ≡ i = omega arith in
    let z' : 0 + suc i ≡ suc i = omega arith in
    let p : set (take i s ++ drop (0 + i) d) (0 + i) (get_or s i 0) ≡ take (suc i) s ++ drop (0 + suc i) d = paste-suc d 0 s i 0 (omega arith) hs in
    rw (e, add-one) (simp (z, z') at p)

-- all stand there
pub all_there : (s d : List ℕ) (i : ℕ) → i ≡ length s → take i s ++ drop i d ≡ patched d 0 s
unfolding patched
all_there s d i e =
    let z : 0 + length s ≡ length s = omega arith in
    rw (take_all i s (omega arith), e, z)
