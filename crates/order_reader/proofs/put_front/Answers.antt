-- `order_reader::put_front` meets its contract: the head, and in the tail after it the fixed part, the middle, the count and the bitfields. Assumes nothing.
use Rattle.numbers.proofs.Tail.{puts_then}
use Rattle.numbers.specs.Numbers.{bytes_of, patched}
use Rattle.block.specs.Slots.{zeros}
use Rattle.order_reader.specs.Stages.{kept_bytes, front_bytes}
use Rattle.order_reader.proofs.Fronts.{body_long}
use mathlib.Core.Path.{refl, ap₂, ◌∙◌}
use mathlib.Core.List.{◌∷◌, ◌++◌}
use Prim.Native.Nat.{ℕ, ◌-◌}
use lib.ListN.{length}
use native.Mathlib.Omega.{arith}
use Rattle.block.specs.Sizes.{most_bitfields}
use Rattle.order_reader.proofs.put_front.Goals as goal

pub returns : goal.returns
unfolding front_bytes
returns c =
    let put = c in
    let headed = put in
    let numbered = headed in
    let united = numbered in
    let start = united in
    let a = start.args in
    let n = body_long a.m.now a.message a.count a.bits.now a.rest.now start.requires.0 start.requires.2 start.requires.3 start.requires.1 in
    let body = kept_bytes a.m.now a.message a.count a.bits.now a.rest.now ++ (a.count ∷ (a.bits.now ++ zeros (most_bitfields - length a.bits.now))) in
    puts_then a.buffer.now _ (a.message ∷ united.unit_of-unit.result ∷ bytes_of 4 numbered.number_of-number.result) body 6 refl (omega (arith, n, start.requires.4)) headed.put_head.ensures put.put_body.ensures
    ∙ ap₂ (λ (u i : ℕ). patched a.buffer.now 0 ((a.message ∷ u ∷ bytes_of 4 i) ++ body)) united.unit_of-unit.ensures numbered.number_of-number.ensures
