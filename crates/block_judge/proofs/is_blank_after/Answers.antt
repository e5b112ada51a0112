-- `block_judge::is_blank_after` meets its contract: where no byte is left, what is left is blank. Assumes nothing.
use native.Mathlib.Omega.{arith}
use Rattle.kinds.specs.Kinds.{all_nul}
use lib.ListN.{take, drop}
use mathlib.Core.Path.{◌≡◌, sym, ap}
use Prim.Native.Nat.{ℕ, ◌-◌}
use Rattle.block_judge.proofs.is_blank_after.Goals as goal

pub returns-then-count-k : goal.returns-then-count-k
returns-then-count-k c =
    let a = c.args in
    let none : a.count - a.k ≡ 0 = omega arith in
    ap (λ (n : ℕ). all_nul (take n (drop a.k a.bits.now))) (sym none)
