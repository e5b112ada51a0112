use mathlib.Core.Path.{◌≡◌}
use Prim.Native.Nat.{◌+◌, ◌-◌, ◌≤◌}
use lib.ListN.{length}
use Rattle.block.specs.Walk.{bits_from, in_byte, store_entry}
use Rattle.block.specs.Fits.{bits_take}
use Rattle.block_store.specs.State.{storing}
use Rattle.block_store.proofs.store_bits.Given as goal

abbrev pub invariant-loop-bit : goal.invariant-loop-bit
invariant-loop-bit l =
    (l.bit ≤ 8)
    × (length l.layout ≡ length l.initial.layout)
    × (l.at + bits_take l.message l.byte (8 - l.bit) l.bit l.x ≡ l.start + bits_take l.message l.byte 8 0 l.value)
    × (bits_from (store_entry l.msg) l.message l.byte (8 - l.bit) l.bit l.x (storing l.at l.layout) ≡ in_byte (store_entry l.msg) l.message l.byte l.value (storing l.start l.initial.layout))
