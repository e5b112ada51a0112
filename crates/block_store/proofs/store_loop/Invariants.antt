use mathlib.Core.Path.{◌≡◌}
use Prim.Native.Nat.{◌+◌, ◌*◌, ◌-◌, ◌≤◌}
use lib.ListN.{length}
use Rattle.block.specs.Fits.{left}
use Rattle.block_store.specs.State.{storing, store_walk}
use Rattle.block.specs.Sizes.{all_places}
use Rattle.block_store.proofs.store_loop.Given as goal

abbrev pub invariant-loop-j : goal.invariant-loop-j
invariant-loop-j l =
    (l.j ≤ l.count)
    × (length l.layout ≡ length l.initial.layout)
    × (l.at + left l.message l.count l.bits (all_places - 8 * l.j) (8 * l.j) ≤ length l.msg)
    × (store_walk l.message l.count l.bits l.msg (all_places - 8 * l.j) (8 * l.j) (storing l.at l.layout) ≡ store_walk l.message l.count l.bits l.msg all_places 0 (storing 0 l.initial.layout))
