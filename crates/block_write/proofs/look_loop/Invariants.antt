use mathlib.Core.Path.{◌≡◌}
use Prim.Native.Nat.{◌*◌, ◌-◌}
use Rattle.block_write.specs.State.{looking, look_walk, Midway}
use Rattle.block.specs.Sizes.{all_places}
use Rattle.block_write.proofs.look_loop.Given as goal

abbrev pub invariant-loop-j : goal.invariant-loop-j
invariant-loop-j l =
    Midway l.count l.bits l.j l.r.total l.rest
    × (look_walk l.message l.count l.bits (all_places - 8 * l.j) (8 * l.j) (looking l.r l.rest) ≡ look_walk l.message l.count l.bits (all_places - 8 * l.from) (8 * l.from) (looking l.initial.r l.initial.rest))
