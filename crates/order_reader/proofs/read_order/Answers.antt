-- `order_reader::read_order` meets its contract: a message under its own type is the message. Assumes nothing.
use Rattle.refusals.specs.Outcomes.{outcome}
use Rattle.orders.proofs.Refusing.{tells}
use Rattle.order_reader.proofs.Heads.{no_type, typed_itself}
use Rattle.order_reader.proofs.Readings.{refused-keeps}
use Rattle.order_reader.specs.Stages.{read_record}
use Rattle.orders.specs.Markets.{typed}
use Rattle.orders.specs.Orders.{read_refusal}
use mathlib.Core.Path.{◌≡◌, ap, ◌∙◌}
use mathlib.Core.List.{List}
use Prim.Native.Nat.{ℕ}
use native.Mathlib.Omega.{arith}
use Rattle.order_reader.proofs.read_order.Goals as goal

pub returns-then-m-lt5 : goal.returns-then-m-lt5
returns-then-m-lt5 c =
    let m = c.args.m.now in
    let k = refused-keeps m c.args.buffer.now (no_type m c.if-m-lt5.true) (λ z. omega (arith, z)) in
    (tells (c.new.ensures ∙ k.0) (λ z. omega (arith, c.new.ensures, z)), k.1)

pub returns : goal.returns
returns c =
    let m = c.args.m.now in
    let same : typed c.type_of.result m ≡ m = typed_itself m (omega (arith, c.if-m-lt5.false)) c.type_of.ensures in (
      c.read_as.ensures.0 ∙ ap outcome (ap read_refusal same),
      c.read_as.ensures.1 ∙ ap (λ (x : List ℕ). read_record x c.args.buffer.now) same,
    )
