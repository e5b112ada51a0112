-- `block_write::look_rest` meets its contract: past the count the walk has ended, bytes that are blank leave the state, and any others go through the
-- loop. Assumes nothing.
use mathlib.Core.Path.{refl, sym, ◌∙◌}
use Rattle.block.specs.Loops.{bytes_end, bytes-clear}
use Rattle.block.specs.Walk.{look_entry}
use Rattle.block_write.specs.State.{looking}
use Rattle.block_write.proofs.look_rest.Goals as goal

pub returns-then-count-from : goal.returns-then-count-from
returns-then-count-from c =
    let a = c.args in
    bytes_end look_entry a.message a.count a.bits.now a.from (looking a.s a.rest.now) _ c.if-count-from.true refl

pub returns-then-is_blank : goal.returns-then-is_blank
returns-then-is_blank c =
    let asked = c in
    let a = asked.args in
    bytes-clear look_entry a.message a.count a.bits.now a.from (looking a.s a.rest.now) (sym asked.is_blank.ensures ∙ c.if-is_blank.true)
