-- `order_records::unpack` meets its contract. Assumes nothing.
use Rattle.order_records.specs.RecordLaws.{record_is}
use Rattle.numbers.specs.NumberLaws.{patched-part}
use native.Mathlib.Omega.{arith}
use mathlib.Core.Path.{refl}
use Rattle.block.specs.Sizes.{fixed_size, layout_size, most_bitfields, bits_place, slots_place}
use Rattle.order_records.proofs.unpack.Goals as goal

pub returns : goal.returns
returns c =
    let start = c in
    let s = start.args.s.now in
    record_is s c.read_u32.ensures (patched-part _ s fixed_size 6 refl (omega (arith, start.requires)) c.copy.ensures) (patched-part _ s most_bitfields bits_place refl (omega (arith, start.requires)) c.copy-2.ensures) (patched-part _ s layout_size slots_place refl (omega (arith, start.requires)) c.copy-3.ensures)
