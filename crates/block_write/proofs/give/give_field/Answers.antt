-- `block_write::give::give_field` meets its contract: the field is the part of the layout that `move_field` puts into the lent tail of the message.
-- Assumes nothing.
use mathlib.Core.Path.{refl}
use native.Mathlib.Omega.{arith}
use Rattle.numbers.proofs.Tail.{lent-patched}
use Rattle.block_write.specs.State.{giving}
use Rattle.block_write.proofs.One.{given_is}
use Rattle.block_write.proofs.give.give_field.Goals as goal

pub returns : goal.returns
returns c =
    let moved = c in
    let start = moved in
    let a = start.args in (
      given_is a.layout.now a.width a.place (giving a.at a.out.now) (omega arith)
          (lent-patched a.out.now a.at _ (omega arith) moved.move_field.ensures),
      refl,
    )
