-- `order_fields::purge_orders::with_risk_group_id` meets its contract. Assumes nothing.
use Rattle.order_fields.proofs.Answers.{raised_and_set}
use Rattle.order_fields.specs.Named.{larger}
use Rattle.order_fields.specs.RiskGroupLaws.{over_nine_changes_nothing}
use Prim.Native.Nat.{◌+◌}
use mathlib.Core.Path.{◌≡◌, sym}
use borrow.Author.Rules.{rules}
use Rattle.order_fields.proofs.purge_orders.with_risk_group_id.Goals as goal

pub returns-then-i-lt10 : goal.returns-then-i-lt10
returns-then-i-lt10 c =
    let a = c.args in
    let e : c.max-count.result ≡ larger c.count_of.result (a.i + 1) = search rules in
    raised_and_set a.i a.value a.r c.if-i-lt10.true c.count_of.ensures e c.set_fixed-o.ensures c.set_fixed.ensures

pub returns : goal.returns
returns c =
    let a = c.args in
    sym (over_nine_changes_nothing a.i a.value a.r c.if-i-lt10.false)
