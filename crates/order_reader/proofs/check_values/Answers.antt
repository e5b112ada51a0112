-- `order_reader::check_values` meets its contract. Assumes nothing.
use Rattle.refusals.specs.Names.{bad_value}
use Rattle.refusals.specs.Told.{told}
use Rattle.orders.proofs.OrderLaws.{count_bounds}
use Rattle.orders.proofs.Refusing.{tells_at, tells_none}
use Rattle.order_reader.specs.Stages.{value_refusal}
use borrow.Author.Tests.{eq-eqb, ne_eqb}
use native.Mathlib.Omega.{arith}
use Prim.Native.Nat.{ℕ, ◌+◌}
use mathlib.Core.Path.{ap, ◌∙◌}
use Rattle.order_reader.proofs.check_values.Goals as goal

pub overflow_add-last : goal.overflow_add-last
overflow_add-last c = omega (arith, c.count_at.ensures, (count_bounds c.args.message).high)

pub overflow_add-last-then-not-good : goal.overflow_add-last-then-not-good
overflow_add-last-then-not-good c = omega (arith, c.count_at.ensures, (count_bounds c.args.message).high)

pub at-requires : goal.at-requires
at-requires c = omega (arith, c.count_at.ensures, (count_bounds c.args.message).high)

pub returns-then-not-good : goal.returns-then-not-good
unfolding value_refusal
returns-then-not-good c =
    let a = c.args in
    tells_at _ _ c.at.ensures (ap (λ (n : ℕ). told bad_value (n + a.count + 1)) c.count_at.ensures ∙ rw c.if-not-good.true)

pub overflow_add-last-then-wrong-ne0 : goal.overflow_add-last-then-wrong-ne0
overflow_add-last-then-wrong-ne0 c = omega (arith, c.count_at.ensures, (count_bounds c.args.message).high, c.requires.0)

pub overflow_add-last-then-wrong-ne0-2 : goal.overflow_add-last-then-wrong-ne0-2
overflow_add-last-then-wrong-ne0-2 c = omega (arith, c.count_at.ensures, (count_bounds c.args.message).high, c.requires.0, c.requires.1)

pub at-requires-then-wrong-ne0 : goal.at-requires-then-wrong-ne0
at-requires-then-wrong-ne0 c = omega (arith, c.count_at.ensures, (count_bounds c.args.message).high, c.requires.0, c.requires.1)

pub returns-then-wrong-ne0 : goal.returns-then-wrong-ne0
unfolding value_refusal
returns-then-wrong-ne0 c =
    let a = c.args in
    tells_at _ _ c.at-then-wrong-ne0.ensures (ap (λ (n : ℕ). told bad_value (n + a.count + a.size + a.wrong)) c.count_at.ensures ∙ rw (c.if-not-good.false, ne_eqb _ _ c.if-wrong-ne0.true))

pub returns : goal.returns
unfolding value_refusal
returns c = tells_none (rw (c.if-not-good.false, eq-eqb _ _ c.if-wrong-ne0.false))
