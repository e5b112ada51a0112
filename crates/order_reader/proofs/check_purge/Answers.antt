-- `order_reader::check_purge` meets its contract. Assumes nothing.
use Rattle.refusals.specs.Outcomes.{outcome}
use mathlib.Core.Path.{refl, ap, ◌∙◌}
use Rattle.order_reader.proofs.LateInPlace.{instruction_stands, purge-found, firm_small}
use native.Mathlib.Omega.{arith}
use Rattle.order_reader.proofs.check_purge.Goals as goal

pub bounds-optional-at : goal.bounds-optional-at
bounds-optional-at c =
    let start = c in
    let a = start.args in
    omega (arith, c.firm_width-at.ensures, (instruction_stands a.count a.bits.now a.optional.now start.requires.2 start.requires.1 0 (omega arith)).0)

pub overflow_add-at : goal.overflow_add-at
overflow_add-at c =
    let start = c in
    let a = start.args in
    omega (arith, c.firm_width-at.ensures, firm_small a.count a.bits.now)

pub bounds-optional-at-2 : goal.bounds-optional-at-2
bounds-optional-at-2 c =
    let start = c in
    let a = start.args in
    omega (arith, c.firm_width-at.ensures, (instruction_stands a.count a.bits.now a.optional.now start.requires.2 start.requires.1 1 (omega arith)).0)

pub overflow_add-at-2 : goal.overflow_add-at-2
overflow_add-at-2 c =
    let start = c in
    let a = start.args in
    omega (arith, c.firm_width-at.ensures, firm_small a.count a.bits.now)

pub bounds-optional-at-3 : goal.bounds-optional-at-3
bounds-optional-at-3 c =
    let start = c in
    let a = start.args in
    omega (arith, c.firm_width-at.ensures, (instruction_stands a.count a.bits.now a.optional.now start.requires.2 start.requires.1 2 (omega arith)).0)

pub returns : goal.returns
returns c =
    let start = c in
    let a = start.args in
    let unit = c in
    c.check_purge_late.ensures ∙ ap outcome (purge-found a.count a.bits.now a.optional.now start.requires.2 start.requires.1 unit.firm_width-at.ensures unit.last_unit-unit.ensures refl)
