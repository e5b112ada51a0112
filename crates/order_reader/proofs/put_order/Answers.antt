-- `order_reader::put_order` meets its contract: a message under its own type is the message, and one that is not refused has a type. Assumes nothing.
use lib.ListN.{length}
use Prim.Native.Nat.{ℕ, ◌≤◌}
use mathlib.Core.Path.{ap, ◌∙◌}
use mathlib.Core.List.{List}
use Rattle.orders.specs.Orders.{read_refusal}
use Rattle.order_reader.specs.Stages.{read_record}
use Rattle.order_reader.proofs.Heads.{whole_type, typed_itself}
use Rattle.order_reader.proofs.put_order.Goals as goal

pub put_as-requires : goal.put_as-requires
put_as-requires c =
    let m = c.args.m.now in
    let whole : 5 ≤ length m = whole_type m c.requires.0 in
    (whole, ap read_refusal (typed_itself m whole c.type_of.ensures) ∙ c.requires.0, c.requires.1)

pub returns : goal.returns
returns c =
    let m = c.args.m.now in
    c.put_as.ensures ∙ ap (λ (x : List ℕ). read_record x c.args.buffer.now) (typed_itself m (whole_type m c.requires.0) c.type_of.ensures)
