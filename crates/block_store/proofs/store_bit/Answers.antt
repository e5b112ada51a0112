-- `block_store::store_bit` meets its contract: a bit that is not set changes nothing, and for one that is set the dictionary's entry is known in each
-- arm. A listed field lies within the layout, and the message has its bytes. Assumes nothing.
use mathlib.Core.Path.{refl, sym, ◌∙◌}
use native.Mathlib.Omega.{arith}
use borrow.Author.Tests.{eq-eqb, ne_eqb}
use Rattle.dictionary.specs.Dictionary.{entry_of}
use Rattle.block.proofs.Dictionaries.{field_fits}
use Rattle.block.specs.Loops.{bit-set, bit_unset}
use Rattle.block.specs.Walk.{store_entry}
use Rattle.block_store.specs.State.{storing}
use Rattle.block_store.proofs.One.{set-takes, unset_takes, tail_has, tail_stored}
use Rattle.block_store.proofs.store_bit.Goals as goal

pub store_field-requires : goal.store_field-requires
store_field-requires c =
    let known = c in
    let looked = known in
    let a = looked.args in
    let here = sym known.in-Field.is ∙ looked.entry_of-e.ensures in
    let fits = field_fits _ _ _ here in
    (omega (arith, fits), omega (arith, fits), tail_has a.msg.now _ a.at (omega (arith, set-takes _ _ (eq-eqb _ _ looked.if-x-eq1.true) here)))

pub returns-in-Refused : goal.returns-in-Refused
unfolding store_entry
returns-in-Refused c =
    let looked = c in
    let a = looked.args in
    let set = eq-eqb _ _ looked.if-x-eq1.true in
    let here = sym c.in-Refused.is ∙ looked.entry_of-e.ensures in
    (bit-set (store_entry a.msg.now) _ _ (storing a.at a.layout.now) set here refl, omega (arith, set-takes _ _ set here))

pub returns-in-Field : goal.returns-in-Field
unfolding store_entry
returns-in-Field c =
    let put = c in
    let known = put in
    let looked = known in
    let a = looked.args in
    let set = eq-eqb _ _ looked.if-x-eq1.true in
    let here = sym known.in-Field.is ∙ looked.entry_of-e.ensures in
    let takes = set-takes _ _ set here in (
      bit-set (store_entry a.msg.now) _ _ (storing a.at a.layout.now) set here
          (tail_stored a.msg.now _ a.at (omega (arith, takes)) _ a.layout.now put.store_field.ensures),
      omega (arith, takes),
    )

pub returns-else-x-eq1 : goal.returns-else-x-eq1
returns-else-x-eq1 c =
    let a = c.args in
    let unset = ne_eqb _ _ c.if-x-eq1.false in
    (bit_unset (store_entry a.msg.now) _ _ (storing a.at a.layout.now) unset, omega (arith, unset_takes _ (entry_of a.message a.byte a.bit) unset))
