-- `block_write::give::give_bit` meets its contract: a bit that is not set changes nothing, and for one that is set the dictionary's entry is known in
-- each arm. A listed field lies within the layout. Assumes nothing.
use mathlib.Core.Path.{refl, sym, ◌∙◌}
use native.Mathlib.Omega.{arith}
use borrow.Author.Tests.{eq-eqb, ne_eqb}
use Rattle.dictionary.specs.Dictionary.{entry_of}
use Rattle.block.proofs.Dictionaries.{field_fits}
use Rattle.block.specs.Loops.{bit-set, bit_unset}
use Rattle.block.specs.Walk.{give_entry}
use Rattle.block_write.specs.State.{giving}
use Rattle.block_write.proofs.Given.{set-takes, unset_takes}
use Rattle.block_write.proofs.give.give_bit.Goals as goal

pub give_field-requires : goal.give_field-requires
give_field-requires c =
    let known = c in
    let looked = known in
    let here = sym known.in-Field.is ∙ looked.entry_of-e.ensures in
    let fits = field_fits _ _ _ here in
    let room = set-takes _ _ (eq-eqb _ _ looked.if-x-eq1.true) here in
    (omega (arith, fits), omega (arith, fits), omega (arith, room))

pub returns-in-Refused : goal.returns-in-Refused
unfolding give_entry
returns-in-Refused c =
    let looked = c in
    let a = looked.args in
    let set = eq-eqb _ _ looked.if-x-eq1.true in
    let here = sym c.in-Refused.is ∙ looked.entry_of-e.ensures in
    (bit-set (give_entry a.layout.now) _ _ (giving a.at a.out.now) set here refl, omega (arith, set-takes _ _ set here))

pub returns-in-Field : goal.returns-in-Field
unfolding give_entry
returns-in-Field c =
    let given = c in
    let known = given in
    let looked = known in
    let a = looked.args in
    let set = eq-eqb _ _ looked.if-x-eq1.true in
    let here = sym known.in-Field.is ∙ looked.entry_of-e.ensures in
    (bit-set (give_entry a.layout.now) _ _ (giving a.at a.out.now) set here given.give_field.ensures.0, omega (arith, set-takes _ _ set here, given.give_field.ensures.1))

pub returns-else-x-eq1 : goal.returns-else-x-eq1
returns-else-x-eq1 c =
    let a = c.args in
    let unset = ne_eqb _ _ c.if-x-eq1.false in
    (bit_unset (give_entry a.layout.now) _ _ (giving a.at a.out.now) unset, omega (arith, unset_takes _ (entry_of a.message a.byte a.bit) unset))
