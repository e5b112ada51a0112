-- `order_reader::check_order` meets its contract: a message under its own type is the message. Assumes nothing.
use Rattle.refusals.specs.Outcomes.{outcome}
use Rattle.orders.proofs.Refusing.{tells}
use Rattle.order_reader.proofs.Heads.{no_type, typed_itself}
use Rattle.orders.specs.Orders.{read_refusal}
use mathlib.Core.Path.{ap, ◌∙◌}
use native.Mathlib.Omega.{arith}
use Rattle.order_reader.proofs.check_order.Goals as goal

pub returns-then-m-lt5 : goal.returns-then-m-lt5
returns-then-m-lt5 c = tells (c.new.ensures ∙ no_type c.args.m.now c.if-m-lt5.true) (λ z. omega (arith, c.new.ensures, z))

pub returns : goal.returns
returns c = c.check_as.ensures ∙ ap outcome (ap read_refusal (typed_itself c.args.m.now (omega (arith, c.if-m-lt5.false)) c.type_of.ensures))
