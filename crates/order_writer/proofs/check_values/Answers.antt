-- `order_writer::check_values` meets its contract: each return is the branch of the definition that its tests choose, and the place is near. Assumes
-- nothing.
use borrow.Author.Tests.{eq-eqb, ne_eqb}
use mathlib.Core.Path.{◌≡◌, sym, ap, ap₂, ◌∙◌}
use Prim.Native.Nat.{ℕ, ◌+◌, ◌≤◌}
use native.Mathlib.Omega.{arith}
use Rattle.block.specs.Sizes.{fixed_end}
use Rattle.refusals.specs.Names.{bad_value}
use Rattle.refusals.specs.Told.{told}
use Rattle.orders.proofs.OrderLaws.{count_bounds}
use Rattle.refusals.specs.OutcomeLaws.{passed}
use Rattle.orders.specs.FixedFields.{fixed_wrong}
use Rattle.orders.proofs.Refusing.{tells_at, tells_none, passes, none_told, told_first}
use Rattle.order_writer.specs.Stages.{value_refusal}
use Rattle.order_writer.proofs.check_values.Goals.{After-count_at}
use Rattle.order_writer.proofs.check_values.Goals as goal

near : (c : After-count_at) → (c.count_at.result ≤ fixed_end) × (c.args.count ≤ 255)
near c =
    let start = c in
    (omega (arith, c.count_at.ensures, (count_bounds start.args.message).high), omega (arith, start.ranges.count))

-- past the fixed part no place is told
clear : (c : After-count_at) → fixed_wrong c.args.message c.args.fixed.now ≡ 0
clear c = none_told _ (passed _ _ c.check_fixed.ensures c.in_ok-check_fixed.was)

pub check_fixed-requires : goal.check_fixed-requires
check_fixed-requires c =
    let start = c in
    omega (arith, start.requires.0, (count_bounds start.args.message).high)

pub returns-in_err-check_fixed : goal.returns-in_err-check_fixed
unfolding value_refusal
returns-in_err-check_fixed c = passes _ c.check_fixed.ensures c.in_err-check_fixed.was c.from_residual.ensures.1 (told_first _ _)

pub overflow_add-last : goal.overflow_add-last
overflow_add-last c = omega (arith, near (goal.at.overflow_add-last c).After-count_at)

pub overflow_add-last-then-not-middle_good : goal.overflow_add-last-then-not-middle_good
overflow_add-last-then-not-middle_good c = omega (arith, near (goal.at.overflow_add-last-then-not-middle_good c).After-count_at)

pub at-requires : goal.at-requires
at-requires c = omega (arith, near (goal.at.at-requires c).After-count_at)

pub returns-then-not-middle_good : goal.returns-then-not-middle_good
unfolding value_refusal
returns-then-not-middle_good c =
    let z = clear (goal.at.returns-then-not-middle_good c).After-count_at in
    tells_at _ _ c.at.ensures
    (ap (λ (n : ℕ). told bad_value (n + c.args.count + 1)) c.count_at.ensures
    ∙ rw (eq-eqb _ 0 z, sym c.middle_good.ensures ∙ c.if-not-middle_good.true))

pub overflow_add-last-then-wrong-ne0 : goal.overflow_add-last-then-wrong-ne0
overflow_add-last-then-wrong-ne0 c = omega (arith, near (goal.at.overflow_add-last-then-wrong-ne0 c).After-count_at, c.middle_size-size.ensures.1)

pub overflow_add-last-then-wrong-ne0-2 : goal.overflow_add-last-then-wrong-ne0-2
overflow_add-last-then-wrong-ne0-2 c = omega (arith, near (goal.at.overflow_add-last-then-wrong-ne0-2 c).After-count_at, c.middle_size-size.ensures.1, c.requires.1)

pub at-requires-then-wrong-ne0 : goal.at-requires-then-wrong-ne0
at-requires-then-wrong-ne0 c = omega (arith, near (goal.at.at-requires-then-wrong-ne0 c).After-count_at, c.middle_size-size.ensures.1, c.requires.1)

pub returns-then-wrong-ne0 : goal.returns-then-wrong-ne0
unfolding value_refusal
returns-then-wrong-ne0 c =
    let a = c.args in
    let z = clear (goal.at.returns-then-wrong-ne0 c).After-count_at in
    tells_at _ _ c.at-then-wrong-ne0.ensures
    (ap₂ (λ (n k : ℕ). told bad_value (n + a.count + k + a.wrong)) c.count_at.ensures c.middle_size-size.ensures.0
    ∙ rw (eq-eqb _ 0 z, sym c.middle_good.ensures ∙ c.if-not-middle_good.false, ne_eqb _ 0 c.if-wrong-ne0.true))

pub returns : goal.returns
unfolding value_refusal
returns c =
    let z = clear (goal.at.returns c).After-count_at in
    tells_none (rw (eq-eqb _ 0 z, sym c.middle_good.ensures ∙ c.if-not-middle_good.false, eq-eqb _ 0 c.if-wrong-ne0.false))
