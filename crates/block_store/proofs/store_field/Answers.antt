-- `block_store::store_field` meets its contract: the tail's front is what `move_field` puts into the lent tail of the layout. Assumes nothing.
use mathlib.Core.Path.{◌≡◌, ap, ◌∙◌}
use Prim.Native.Nat.{ℕ, ◌-◌}
use native.Mathlib.Omega.{arith}
use lib.ListN.{take}
use Rattle.numbers.specs.Numbers.{patched}
use Rattle.numbers.proofs.Tail.{lent-patched}
use Rattle.block_store.proofs.store_field.Goals as goal

pub returns : goal.returns
returns c =
    let moved = c in
    let a = moved.args in
    let n : a.width - 0 ≡ a.width = omega arith in
    lent-patched a.layout.now a.place _ (omega arith) moved.move_field.ensures ∙ ap (λ (i : ℕ). patched a.layout.now a.place (take i a.tail.now)) n
