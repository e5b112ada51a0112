-- `order_writer::check_top` meets its contract. Assumes nothing.
use Rattle.orders.proofs.Refusing.{tells, tells_at, tells_none}
use borrow.Author.Tests.{lt-ltb, le-ltb}
use mathlib.Core.Path.{◌≡◌, sym, ap, ◌∙◌}
use Rattle.refusals.specs.Names.{too_many_bitfields}
use Rattle.refusals.specs.Told.{told}
use Rattle.order_writer.specs.Stages.{top_refusal}
use Rattle.orders.specs.Shapes.{most_of}
use Rattle.orders.proofs.OrderLaws.{count_bounds}
use native.Mathlib.Omega.{arith}
use Rattle.order_writer.proofs.check_top.Goals as goal

pub returns-then-not-is_known : goal.returns-then-not-is_known
unfolding top_refusal
returns-then-not-is_known c = tells (c.new.ensures ∙ rw (sym c.is_known.ensures ∙ c.if-not-is_known.true)) (λ z. omega (arith, c.new.ensures, z))

pub returns-then-not-unit_good : goal.returns-then-not-unit_good
unfolding top_refusal
returns-then-not-unit_good c =
    tells (c.new-then-not-unit_good.ensures ∙ rw (sym c.is_known.ensures ∙ c.if-not-is_known.false, sym c.unit_good.ensures ∙ c.if-not-unit_good.true)) (λ z. omega (arith, c.new-then-not-unit_good.ensures, z))

pub at-requires : goal.at-requires
at-requires c = omega (arith, c.count_at.ensures, (count_bounds c.args.message).high)

pub returns-then-most_of-count : goal.returns-then-most_of-count
unfolding top_refusal
returns-then-most_of-count c =
    let most = c in
    let good = most in
    let known = good in
    let a = known.args in
    let n : _ ≡ most_of a.message = most.most_of.ensures in
    tells_at _ _ c.at.ensures
    (ap (told too_many_bitfields) c.count_at.ensures
    ∙ rw (sym known.is_known.ensures ∙ good.if-not-is_known.false, sym good.unit_good.ensures ∙ most.if-not-unit_good.false, lt-ltb (most_of a.message) a.count (omega (arith, n, c.if-most_of-count.true))))

pub returns : goal.returns
unfolding top_refusal
returns c =
    let a = c.args in
    let n : _ ≡ most_of a.message = c.most_of.ensures in
    tells_none (rw (sym c.is_known.ensures ∙ c.if-not-is_known.false, sym c.unit_good.ensures ∙ c.if-not-unit_good.false, le-ltb (most_of a.message) a.count (omega arith)))
