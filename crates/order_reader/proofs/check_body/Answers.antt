-- `order_reader::check_body` meets its contract: the parts stand in the message where they are lent. Assumes nothing.
use Rattle.refusals.specs.Outcomes.{outcome}
use Rattle.wire.specs.Header.{total_of}
use Rattle.orders.specs.Orders.{body_refusal}
use Rattle.order_reader.proofs.InPlace.{lent-parts}
use lib.ListN.{drop}
use mathlib.Core.List.{List}
use mathlib.Core.Path.{ap, ◌∙◌}
use Prim.Native.Nat.{ℕ}
use Rattle.order_reader.proofs.check_body.Goals as goal

pub returns : goal.returns
returns c =
    let start = c in
    let a = start.args in
    c.check_block.ensures
    ∙ ap outcome (lent-parts a.m.now a.at a.count start.requires.1 (λ (b o : List ℕ). body_refusal (total_of a.m.now) a.message a.count b (drop 10 a.m.now) o))
