-- `block::copy` meets its contract. Assumes nothing.
use Rattle.block.proofs.Moves.{copy_more, copy_all}
use lib.ListN.{get_or, set, length-set}
use native.Mathlib.Omega.{arith}
use Prim.Native.Nat.{ℕ}
use mathlib.Core.List.{List}
use mathlib.Core.Path.{refl, ap, ◌∙◌}
use Rattle.block.proofs.copy.Goals as goal

pub loop-i-init : goal.loop-i-init
loop-i-init c = (refl, refl)

pub loop-i-preserved : goal.loop-i-preserved
loop-i-preserved c =
    let s = c.args.from.now in
    let d = c.args.to.now in
    let i = c.loop-i.i in
    let inv = c.loop-i.invariant in
    (length-set c.loop-i.to i (get_or s i 0) ∙ inv.0, ap (λ (l : List ℕ). set l i (get_or s i 0)) inv.1 ∙ copy_more s d i c.loop-i-test.true (omega arith))

pub returns : goal.returns
returns c = c.loop-i.invariant.1 ∙ copy_all c.args.from.now c.args.to.now c.loop-i.i c.loop-i-test.false (omega arith)
