use mathlib.Core.Path.{◌≡◌}
use Prim.Native.Nat.{◌+◌, ◌*◌, ◌-◌, ◌≤◌}
use lib.ListN.{length}
use Rattle.block.specs.Walk.{bits_from, in_byte, look_here}
use Rattle.block_write.specs.State.{looking}
use Rattle.block.specs.Sizes.{layout_size}
use Rattle.block_write.proofs.look_bits.Given as goal

abbrev pub invariant-loop-bit : goal.invariant-loop-bit
invariant-loop-bit l =
    (l.bit ≤ 8)
    × (length l.rest ≡ layout_size)
    × (l.r.total ≤ l.s.total + 255 * l.bit)
    × (bits_from (look_here l.byte) l.message l.byte (8 - l.bit) l.bit l.x (looking l.r l.rest) ≡ in_byte (look_here l.byte) l.message l.byte l.value (record { total = l.s.total; wrong = l.s.wrong; bad = 0; rest = l.initial.rest }))
