-- `block::move_field` meets its contract: the front of the local is what was copied into it. Assumes nothing.
use Rattle.block.proofs.Moves.{held-front}
use Rattle.numbers.specs.Numbers.{patched}
use mathlib.Core.Path.{ap, ◌∙◌}
use Rattle.block.proofs.move_field.Goals as goal

pub returns : goal.returns
returns c =
    let last = c in
    let copied = last in
    let a = copied.args in
    last.copy_front.ensures ∙ ap (patched a.to.now 0) (held-front a.from.now _ _ copied.copy.ensures)
