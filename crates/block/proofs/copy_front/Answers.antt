-- `block::copy_front` meets its contract. Assumes nothing.
use Rattle.numbers.specs.Numbers.{patched}
use lib.ListN.{take}
use native.Mathlib.Omega.{arith}
use Prim.Native.Nat.{ℕ, ◌-◌}
use mathlib.Core.Path.{◌≡◌, ap, ◌∙◌}
use Rattle.block.proofs.copy_front.Goals as goal

pub returns : goal.returns
returns c =
    let a = c.args in
    let e : a.n - 0 ≡ a.n = omega arith in
    c.copy.ensures ∙ ap (λ (k : ℕ). patched a.to.now 0 (take k a.from.now)) e
