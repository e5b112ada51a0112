-- `order_reader::put_there` meets its contract: the parts that are lent are the bitfields and what follows them. Assumes nothing.
use Rattle.order_reader.proofs.InPlace.{lent_fits, lent-parts}
use Rattle.order_reader.specs.Stages.{there_bytes}
use Rattle.numbers.specs.Numbers.{patched}
use Rattle.block.specs.Slots.{takes, sum}
use Rattle.block.specs.Places.{slots_of}
use Rattle.orders.specs.Shapes.{count_at}
use Rattle.orders.specs.Middle.{middle_size}
use mathlib.Core.Path.{sym, ◌∙◌}
use mathlib.Core.List.{List}
use Prim.Native.Nat.{ℕ, ◌+◌}
use lib.ListN.{length}
use native.Mathlib.Omega.{arith}
use Rattle.order_reader.proofs.put_there.Goals as goal

pub put_record-requires : goal.put_record-requires
put_record-requires c =
    let start = c in
    let a = start.args in
    let k = lent_fits a.m.now a.at a.count start.requires.1 start.requires.0 in
    let n = lent-parts a.m.now a.at a.count start.requires.1 (λ (b o : List ℕ). middle_size a.message a.count b o + sum takes (slots_of a.message a.count b)) in
    let l = lent-parts a.m.now a.at a.count start.requires.1 (λ (b o : List ℕ). length o) in
    let s = lent-parts a.m.now a.at a.count start.requires.1 (λ (b o : List ℕ). count_at a.message + middle_size a.message a.count b o) in
    (omega (arith, start.requires.1, start.requires.3), k.0, start.requires.2, n ∙ start.requires.4 ∙ sym l, omega (arith, s, start.requires.5), start.requires.6)

pub returns : goal.returns
returns c =
    let put = c in
    let start = put in
    let a = start.args in
    put.put_record.ensures
    ∙ lent-parts a.m.now a.at a.count start.requires.1 (λ (b o : List ℕ). patched a.buffer.now 0 (there_bytes a.m.now a.message a.count b o))
