-- `block_write::look_field` meets its contract: the field is a part of the lent layout, `agrees` is asked of it, and `clear` puts zeros over it there.
-- Assumes nothing.
use mathlib.Core.Path.{ap, ◌∙◌}
use native.Mathlib.Omega.{arith}
use Rattle.numbers.proofs.Tail.{lent-patched}
use Rattle.block.specs.Walk.{worse_of}
use Rattle.block_write.proofs.One.{looked_is}
use Rattle.block_write.proofs.look_field.Goals as goal

pub returns : goal.returns
returns c =
    let after-clear = c in
    let after-agrees = after-clear in
    let a = after-agrees.args in (
      looked_is a.rest.now a.width a.place a.kind a.s.total a.s.wrong a.s.bad
          (c.worse.ensures ∙ ap (worse_of a.s.total a.s.wrong) after-agrees.agrees-agree.ensures)
          (lent-patched a.rest.now a.place _ (omega arith) after-clear.clear.ensures),
      omega arith,
    )
