-- `order_reader::check_type` meets its contract: 5, or the refusal of the count. Assumes nothing.
use Rattle.refusals.specs.Outcomes.{outcome}
use Rattle.orders.proofs.Refusing.{tells}
use native.Mathlib.Omega.{arith}
use Rattle.order_reader.proofs.Heads.{bad_unit_lem, good_unit}
use mathlib.Core.Bool.{not}
use mathlib.Core.Path.{ap, ◌∙◌}
use Rattle.order_reader.proofs.check_type.Goals as goal

pub returns-then-not-unit_good : goal.returns-then-not-unit_good
returns-then-not-unit_good c =
    let good = c in
    let number = good in
    let unit = number in
    let a = unit.args in
    tells (c.new.ensures ∙ bad_unit_lem a.m.now a.message unit.unit_of-unit.result number.number_of-number.result a.at a.most unit.unit_of-unit.ensures number.number_of-number.ensures good.unit_good.result good.unit_good.ensures (ap not c.if-not-unit_good.true)) (λ z. omega (arith, c.new.ensures, z))

pub returns : goal.returns
returns c =
    let good = c in
    let number = good in
    let unit = number in
    let a = unit.args in
    c.check_count.ensures
    ∙ ap outcome (good_unit a.m.now a.message unit.unit_of-unit.result number.number_of-number.result a.at a.most unit.unit_of-unit.ensures number.number_of-number.ensures good.unit_good.result good.unit_good.ensures (ap not c.if-not-unit_good.false))
