-- `order_reader::check_judged` meets its contract: each return is the branch of the definition that its tests, and what the callees ensure of theirs,
-- choose. Assumes nothing.
use Rattle.refusals.specs.Outcomes.{outcome}
use Rattle.refusals.specs.OutcomeLaws.{passed}
use Rattle.orders.specs.Rests.{bad_at}
use Rattle.orders.proofs.Refusing.{tells_at, passes, none_told, told_first}
use Rattle.refusals.specs.Names.{unlisted_bit, not_selected}
use Rattle.refusals.specs.Told.{told}
use Rattle.numbers.proofs.Tail.{tail_is}
use Rattle.orders.specs.Shapes.{count_at}
use Rattle.orders.specs.FixedFields.{fixed_wrong}
use Rattle.orders.proofs.OrderLaws.{count_bounds}
use Rattle.order_reader.specs.Stages.{value_refusal, judged_of}
use borrow.Author.Tests.{eq-eqb, ne_eqb}
use lib.ListN.{length, take, drop}
use native.Mathlib.Omega.{arith}
use Prim.Native.Nat.{ℕ, ◌+◌, ◌-◌, ◌≤◌}
use mathlib.Core.Bool.{Bool}
use mathlib.Core.Path.{◌≡◌, sym, ap, ap₂, ◌∙◌}
use Rattle.order_reader.proofs.check_judged.Goals.{Start}
use Rattle.order_reader.proofs.check_judged.Goals as goal

long : (s : Start) → 10 ≤ length s.args.m.now
long s = omega (arith, s.requires.1, (count_bounds s.args.message).low)

pub at-requires : goal.at-requires
at-requires c =
    let at = c in
    let start = at in
    omega (arith, at.count_at-at.ensures, (count_bounds start.args.message).high, start.requires.2)

pub returns-then-t-ne0 : goal.returns-then-t-ne0
unfolding judged_of
returns-then-t-ne0 c =
    let at = c in
    let bad = at in
    tells_at _ _ c.at.ensures (ap (λ (n : ℕ). told unlisted_bit (n + bad.args.t.bad)) at.count_at-at.ensures ∙ rw (ne_eqb _ _ bad.if-t-ne0.true))

pub at-requires-then-not-has_required : goal.at-requires-then-not-has_required
at-requires-then-not-has_required c =
    let start = c in
    omega (arith, c.count_at.ensures, (count_bounds start.args.message).high)

pub returns-then-not-has_required : goal.returns-then-not-has_required
unfolding judged_of
returns-then-not-has_required c =
    let at = c in
    let required = at in
    tells_at _ _ c.at-then-not-has_required.ensures
    (ap (λ (n : ℕ). told not_selected (n + required.args.count)) at.count_at.ensures
    ∙ rw (eq-eqb _ _ required.if-t-ne0.false, sym required.has_required.ensures ∙ at.if-not-has_required.true))

pub returns-then-size-t : goal.returns-then-size-t
unfolding judged_of
returns-then-size-t c =
    let required = c in
    tells_at _ _ c.wrong_total.ensures (rw (eq-eqb _ _ required.if-t-ne0.false, sym required.has_required.ensures ∙ c.if-not-has_required.false, ne_eqb _ _ c.if-size-t.true))

pub slice_bounds-check_fixed-count : goal.slice_bounds-check_fixed-count
slice_bounds-check_fixed-count c = long (goal.at.slice_bounds-check_fixed-count c).Start

pub slice_bounds-check_fixed-start : goal.slice_bounds-check_fixed-start
slice_bounds-check_fixed-start c = long (goal.at.slice_bounds-check_fixed-start c).Start

pub check_values-requires : goal.check_values-requires
check_values-requires c = (c.requires.4, c.requires.5 c.if-size-t.false)

-- the fixed part as it is lent is that of the message
part : (s : Start) → fixed_wrong s.args.message (take (length s.args.m.now - 10) (drop 10 s.args.m.now)) ≡ fixed_wrong s.args.message (drop 10 s.args.m.now)
part s = ap (fixed_wrong s.args.message) (tail_is s.args.m.now 10 (long s))

pub returns-in_err-check_fixed : goal.returns-in_err-check_fixed
unfolding judged_of value_refusal
returns-in_err-check_fixed c =
    let e = c.check_fixed.ensures ∙ ap (λ (n : ℕ). outcome (bad_at n)) (part (goal.at.returns-in_err-check_fixed c).Start) in
    passes _ e c.in_err-check_fixed.was c.from_residual.ensures.1
    (λ h. rw (eq-eqb _ _ c.if-t-ne0.false, sym c.has_required.ensures ∙ c.if-not-has_required.false, eq-eqb _ _ c.if-size-t.false) (told_first _ _ h))

pub returns : goal.returns
unfolding judged_of
returns c =
    let a = c.args in
    let e = c.check_fixed.ensures ∙ ap (λ (n : ℕ). outcome (bad_at n)) (part (goal.at.returns c).Start) in
    let z = none_told (fixed_wrong a.message (drop 10 a.m.now)) (passed _ _ e c.in_ok-check_fixed.was) in
    c.check_values.ensures
    ∙ ap outcome
    (ap₂ (λ (f : ℕ) (g : Bool). value_refusal (count_at a.message + a.count) f g a.size a.t.wrong) (sym z) c.middle_good-good.ensures
    ∙ rw (eq-eqb _ _ c.if-t-ne0.false, sym c.has_required.ensures ∙ c.if-not-has_required.false, eq-eqb _ _ c.if-size-t.false))
