-- `order_reader::last_unit` meets its contract. Assumes nothing.
use Rattle.order_reader.proofs.LateInPlace.{unit_stands}
use mathlib.Core.Bool.{true≢false}
use native.Mathlib.Omega.{arith}
use mathlib.Core.Path.{sym, ◌∙◌}
use Rattle.order_reader.proofs.last_unit.Goals as goal

pub overflow_sub-result : goal.overflow_sub-result
overflow_sub-result c =
    let start = c in
    let a = start.args in
    omega (arith, (unit_stands a.count a.bits.now a.optional.now start.requires.1 (sym c.is_selected.ensures ∙ c.if-is_selected.true)).0)

pub bounds-optional-optional : goal.bounds-optional-optional
bounds-optional-optional c =
    let start = c in
    let a = start.args in
    omega (arith, (unit_stands a.count a.bits.now a.optional.now start.requires.1 (sym c.is_selected.ensures ∙ c.if-is_selected.true)).0)

pub returns-then-is_selected : goal.returns-then-is_selected
returns-then-is_selected c =
    let start = c in
    let a = start.args in
    λ on. (unit_stands a.count a.bits.now a.optional.now start.requires.1 on).1

pub returns : goal.returns
returns c = λ on. absurd (true≢false (sym on ∙ (sym c.is_selected.ensures ∙ c.if-is_selected.false)))
