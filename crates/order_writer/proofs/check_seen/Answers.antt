-- `order_writer::check_seen` meets its contract: each return is the branch of the definition that its tests choose, and the place is near; where no
-- value is refused, the middle is good. Assumes nothing.
use Rattle.refusals.specs.Outcomes.{outcome}
use Rattle.refusals.specs.OutcomeLaws.{passed}
use Rattle.orders.proofs.Refusing.{tells_at, passes}
use borrow.Author.Tests.{eq-eqb, ne_eqb}
use mathlib.Core.Path.{◌≡◌, sym, ap, ◌∙◌}
use mathlib.Core.List.{List}
use Prim.Native.Nat.{ℕ, ◌+◌, ◌-◌, ◌≤◌}
use native.Mathlib.Omega.{arith}
use lib.ListN.{drop}
use Rattle.block.specs.Sizes.{fixed_end}
use Rattle.refusals.specs.Names.{unlisted_bit, not_selected}
use Rattle.refusals.specs.Told.{told}
use Rattle.orders.specs.Shapes.{count_at}
use Rattle.orders.proofs.OrderLaws.{count_bounds}
use Rattle.order_writer.specs.Stages.{value_refusal, seen_refusal}
use Rattle.order_writer.proofs.Held.{held_low, held-there, held_is_lem}
use Rattle.order_writer.proofs.Writing.{middle_good_lem}
use Rattle.order_writer.proofs.check_seen.Goals.{After-struct_known-1, After-check_values}
use Rattle.order_writer.proofs.check_seen.Goals as goal

near : (k : After-struct_known-1) → k.count_at-at.result ≤ fixed_end
near k = omega (arith, k.count_at-at.ensures, (count_bounds k.args.message).high)

value : (c : After-check_values) → c.check_values.result ≡ outcome (let a = c.args in value_refusal a.message a.count a.fixed.now a.bits.now (drop (count_at a.message - 10) a.fixed.now) a.s.wrong)
value c =
    let a = c.args in
    c.check_values.ensures
    ∙ ap (λ (l : List ℕ). outcome (value_refusal a.message a.count a.fixed.now a.bits.now l a.s.wrong)) (held_is_lem a.message a.fixed.now c.requires.0 c.count_at-at.ensures)

pub overflow_add-at : goal.overflow_add-at
overflow_add-at c =
    let k = c in
    omega (arith, near (goal.at.overflow_add-at c).After-struct_known-1, k.requires.3)

pub at-requires : goal.at-requires
at-requires c =
    let k = c in
    omega (arith, near (goal.at.at-requires c).After-struct_known-1, k.requires.3)

pub returns-then-s-ne0 : goal.returns-then-s-ne0
unfolding seen_refusal
returns-then-s-ne0 c =
    let bad = c in
    let k = bad in
    tells_at _ _ c.at.ensures (ap (λ (n : ℕ). told unlisted_bit (n + k.args.s.bad)) k.count_at-at.ensures ∙ rw (ne_eqb _ 0 bad.if-s-ne0.true))

pub overflow_add-at-then-not-has_required : goal.overflow_add-at-then-not-has_required
overflow_add-at-then-not-has_required c =
    let k = c in
    omega (arith, near (goal.at.overflow_add-at-then-not-has_required c).After-struct_known-1, k.requires.2)

pub at-requires-then-not-has_required : goal.at-requires-then-not-has_required
at-requires-then-not-has_required c =
    let k = c in
    omega (arith, near (goal.at.at-requires-then-not-has_required c).After-struct_known-1, k.requires.2)

pub returns-then-not-has_required : goal.returns-then-not-has_required
unfolding seen_refusal
returns-then-not-has_required c =
    let required = c in
    let k = required in
    tells_at _ _ c.at-then-not-has_required.ensures
    (ap (λ (n : ℕ). told not_selected (n + k.args.count)) k.count_at-at.ensures
    ∙ rw (eq-eqb _ 0 required.if-s-ne0.false, sym required.has_required.ensures ∙ c.if-not-has_required.true))

pub overflow_sub-n : goal.overflow_sub-n
overflow_sub-n c =
    let k = c in
    let start = k in
    held_low start.args.message start.args.fixed.now start.requires.0 k.count_at-at.ensures

pub slice_bounds-check_values-count : goal.slice_bounds-check_values-count
slice_bounds-check_values-count c =
    let k = c in
    let start = k in
    held-there start.args.message start.args.fixed.now start.requires.0 k.count_at-at.ensures

pub slice_bounds-check_values-start : goal.slice_bounds-check_values-start
slice_bounds-check_values-start c =
    let k = c in
    let start = k in
    omega (arith, held-there start.args.message start.args.fixed.now start.requires.0 k.count_at-at.ensures)

pub returns-in_err-check_values : goal.returns-in_err-check_values
unfolding seen_refusal
returns-in_err-check_values c =
    passes _ (value (goal.at.returns-in_err-check_values c).After-check_values) c.in_err-check_values.was c.from_residual.ensures.1
    (λ h. rw (eq-eqb _ 0 c.if-s-ne0.false, sym c.has_required.ensures ∙ c.if-not-has_required.false, ne_eqb _ 0 h))

pub check_end-requires : goal.check_end-requires
check_end-requires c =
    let a = c.args in
    let p = c.requires in
    (p.0, p.1, p.2, p.5, p.6, middle_good_lem a.message a.count a.fixed.now a.bits.now _ a.s.wrong (passed _ _ (value (goal.at.check_end-requires c).After-check_values) c.in_ok-check_values.was))

pub returns : goal.returns
unfolding seen_refusal
returns c =
    let z = passed _ _ (value (goal.at.returns c).After-check_values) c.in_ok-check_values.was in
    c.check_end.ensures ∙ ap outcome (rw (eq-eqb _ 0 c.if-s-ne0.false, sym c.has_required.ensures ∙ c.if-not-has_required.false, eq-eqb _ 0 z))
