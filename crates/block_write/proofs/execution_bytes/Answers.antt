-- `block_write::execution_bytes` meets its contract: what is left to walk after a byte ends as what was left before it, byte after byte.
-- Assumes nothing.
use mathlib.Core.Path.{◌∙◌}
use Rattle.block_write.proofs.execution_bytes.Goals as goal

pub returns : goal.returns
returns c =
    let rest = c in
    let three = rest in
    let two = three in
    let one = two in
    rest.look_rest.ensures
    ∙ three.look_next-c.ensures.0
    ∙ two.look_next-b.ensures.0
    ∙ one.look_next-a.ensures.0
