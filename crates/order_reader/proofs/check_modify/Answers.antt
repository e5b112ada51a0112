-- `order_reader::check_modify` meets its contract. Assumes nothing.
use Rattle.refusals.specs.Outcomes.{outcome}
use Rattle.orders.proofs.Refusing.{tells_none}
use Rattle.order_reader.proofs.LateInPlace.{type_stands, modify_priced, modify-found, firm_small}
use native.Mathlib.Omega.{arith}
use mathlib.Core.Path.{refl, sym, ap, ◌∙◌}
use Rattle.order_reader.proofs.check_modify.Goals as goal

pub returns-then-is_selected : goal.returns-then-is_selected
returns-then-is_selected c =
    let start = c in
    let a = start.args in
    tells_none (modify_priced a.count a.bits.now a.optional.now start.requires.2 (sym c.is_selected.ensures ∙ c.if-is_selected.true))

pub overflow_add-at : goal.overflow_add-at
overflow_add-at c =
    let start = c in
    let a = start.args in
    omega (arith, c.firm_width-at.ensures, firm_small a.count a.bits.now)

pub bounds-optional-at : goal.bounds-optional-at
bounds-optional-at c =
    let start = c in
    let a = start.args in
    let width = c in
    omega (arith, width.firm_width-at.ensures, (type_stands a.count a.bits.now a.optional.now start.requires.2 start.requires.1 (sym width.is_selected.ensures ∙ width.if-is_selected.false)).0)

pub returns : goal.returns
returns c =
    let start = c in
    let a = start.args in
    let width = c in
    c.check_modify_late.ensures ∙ ap outcome (modify-found a.count a.bits.now a.optional.now start.requires.2 start.requires.1 (sym width.is_selected.ensures ∙ width.if-is_selected.false) (omega (arith, width.firm_width-at.ensures)) refl)
