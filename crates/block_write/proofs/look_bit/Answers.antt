-- `block_write::look_bit` meets its contract: a bit that is not set changes nothing, and for one that is set the dictionary's entry is known in each
-- arm. A listed field lies within the layout. Assumes nothing.
use mathlib.Core.Path.{refl, sym, ◌∙◌}
use native.Mathlib.Omega.{arith}
use borrow.Author.Tests.{eq-eqb, ne_eqb}
use Rattle.block.proofs.Dictionaries.{field_fits}
use Rattle.block.specs.Loops.{bit-set, bit_unset}
use Rattle.block.specs.Walk.{look_here}
use Rattle.block_write.specs.State.{looking}
use Rattle.block_write.proofs.look_bit.Goals as goal

pub look_field-requires : goal.look_field-requires
look_field-requires c =
    let known = c in
    let looked = known in
    let start = looked in
    (omega (arith, field_fits _ _ _ (sym known.in-Field.is ∙ looked.entry_of-e.ensures)), start.requires.1)

pub returns-in-Refused : goal.returns-in-Refused
unfolding look_here
returns-in-Refused c =
    let looked = c in
    let a = looked.args in (
      bit-set (look_here a.byte) _ _ (looking a.s a.rest.now) (eq-eqb _ _ looked.if-x-eq1.true) (sym c.in-Refused.is ∙ looked.entry_of-e.ensures) refl,
      omega arith,
    )

pub returns-in-Field : goal.returns-in-Field
unfolding look_here
returns-in-Field c =
    let given = c in
    let known = given in
    let looked = known in
    let a = looked.args in
    let field = given.look_field.ensures in (
      bit-set (look_here a.byte) _ _ (looking a.s a.rest.now) (eq-eqb _ _ looked.if-x-eq1.true) (sym known.in-Field.is ∙ looked.entry_of-e.ensures) field.0,
      field.1,
    )

pub returns-else-x-eq1 : goal.returns-else-x-eq1
returns-else-x-eq1 c =
    let a = c.args in
    (bit_unset (look_here a.byte) _ _ (looking a.s a.rest.now) (ne_eqb _ _ c.if-x-eq1.false), omega arith)
