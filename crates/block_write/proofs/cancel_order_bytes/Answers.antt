-- `block_write::cancel_order_bytes` meets its contract: what is left to walk after a byte ends as what was left before it, byte after byte.
-- Assumes nothing.
use mathlib.Core.Path.{◌∙◌}
use Rattle.block_write.proofs.cancel_order_bytes.Goals as goal

pub returns : goal.returns
returns c =
    let rest = c in
    let one = rest in
    rest.look_rest.ensures
    ∙ one.look_next-a.ensures.0
