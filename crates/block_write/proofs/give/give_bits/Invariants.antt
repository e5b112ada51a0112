use mathlib.Core.Path.{◌≡◌}
use Prim.Native.Nat.{◌+◌, ◌-◌, ◌≤◌}
use lib.ListN.{length}
use Rattle.block.specs.Walk.{bits_from, in_byte, give_entry}
use Rattle.block.specs.Fits.{bits_take}
use Rattle.block_write.specs.State.{giving}
use Rattle.block_write.proofs.give.give_bits.Given as goal

abbrev pub invariant-loop-bit : goal.invariant-loop-bit
invariant-loop-bit l =
    (l.bit ≤ 8)
    × (length l.out ≡ length l.initial.out)
    × (l.at + bits_take l.message l.byte (8 - l.bit) l.bit l.x ≡ l.start + bits_take l.message l.byte 8 0 l.value)
    × (bits_from (give_entry l.layout) l.message l.byte (8 - l.bit) l.bit l.x (giving l.at l.out) ≡ in_byte (give_entry l.layout) l.message l.byte l.value (giving l.start l.initial.out))
