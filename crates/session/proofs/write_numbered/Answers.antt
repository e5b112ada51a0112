-- `session::write_numbered` meets its contract. Assumes nothing.
use Rattle.std.proofs.Common.{ℕ, List, length, refl, ap, ◌∙◌, arith}
use Rattle.refusals.specs.Outcomes.{outcome}
use Rattle.numbers.specs.NumberLaws.{patched-part}
use Rattle.numbers.specs.Numbers.{bytes_of, put_buffer}
use Rattle.order_records.specs.Records.{record_at}
use Rattle.orders.specs.declared.Record.{Record}
use Rattle.orders.specs.Orders.{write_refusal, write_buffer}
use Rattle.session.proofs.OrderLaws.{numbered_is}
use Rattle.block.specs.Sizes.{record_size}
use Rattle.session.proofs.write_numbered.Goals as goal

pub returns : goal.returns
returns c =
    let a = c.args in
    let s = a.given.now in
    let e =
    ap record_at (c.write_u32.ensures.1 ∙ ap (λ (x : List ℕ). put_buffer x 2 (bytes_of 4 a.number.0)) (patched-part _ s record_size 0 refl c.requires c.copy.ensures))
    ∙ numbered_is s a.number.0 c.requires (omega arith) in
    let w = c.write_order.ensures in
    (w.0 ∙ ap (λ (r : Record). outcome (write_refusal r (length a.out.now))) e, w.1 ∙ ap (λ (r : Record). write_buffer r a.out.now) e)
