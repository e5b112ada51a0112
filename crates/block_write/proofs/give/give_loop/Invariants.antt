use mathlib.Core.Path.{◌≡◌}
use Prim.Native.Nat.{◌+◌, ◌*◌, ◌-◌, ◌≤◌}
use lib.ListN.{length}
use Rattle.block.specs.Fits.{left}
use Rattle.block_write.specs.State.{giving, give_walk}
use Rattle.block.specs.Sizes.{all_places}
use Rattle.block_write.proofs.give.give_loop.Given as goal

abbrev pub invariant-loop-j : goal.invariant-loop-j
invariant-loop-j l =
    (l.j ≤ l.count)
    × (length l.out ≡ length l.initial.out)
    × (l.at + left l.message l.count l.bits (all_places - 8 * l.j) (8 * l.j) ≤ length l.initial.out)
    × (give_walk l.message l.count l.bits l.layout (all_places - 8 * l.j) (8 * l.j) (giving l.at l.out) ≡ give_walk l.message l.count l.bits l.layout all_places 0 (giving l.start l.initial.out))
