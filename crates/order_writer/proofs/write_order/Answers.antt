-- `order_writer::write_order` meets its contract: the parts given are those of the record of the bytes. Assumes nothing.
use Rattle.refusals.specs.Outcomes.{outcome}
use Rattle.order_records.specs.RecordLaws.{record_is}
use Rattle.orders.specs.Orders.{write_refusal, write_buffer}
use Rattle.orders.specs.declared.Record.{Record}
use Prim.Native.Nat.{ℕ, zero, suc, ◌+◌, ◌*◌, ◌≤◌}
use mathlib.Core.List.{List}
use native.Mathlib.Omega.{arith}
use lib.ListN.{length, take}
use lib.Seq.{get_or-take}
use Rattle.numbers.specs.Numbers.{number_at}
use mathlib.Core.Path.{◌≡◌, refl, ap, ap₂, ◌∙◌}
use Rattle.order_writer.proofs.write_order.Goals as goal

-- a number in a front is the number there
number_front : (n i w : ℕ) (s : List ℕ) → i + n ≤ w → number_at n i (take w s) ≡ number_at n i s
number_front zero i w s h = refl
number_front (suc n) i w s h = ap₂ (λ (x y : ℕ). x + 256 * y) (get_or-take w s i 0 (omega (arith, h))) (number_front n (i + 1) w s (omega (arith, h)))

pub returns : goal.returns
returns c =
    let wrote = c in
    let number = wrote in
    let a = number.args in
    let s = a.given.now in
    let e = record_is s (number.read_u32-number.ensures ∙ number_front 4 2 6 s (omega arith)) refl refl refl in
    (wrote.write_parts.ensures.0 ∙ ap (λ (r : Record). outcome (write_refusal r (length a.out.now))) e, wrote.write_parts.ensures.1 ∙ ap (λ (r : Record). write_buffer r a.out.now) e)
