-- `session_fields::put_at` meets its contract. Assumes nothing.
use native.Mathlib.Omega.{arith}
use mathlib.Core.Path.{sym, ◌∙◌}
use Rattle.numbers.specs.NumberLaws.{put_stores, put_keeps}
use Rattle.numbers.proofs.Tail.{lent-patched}
use Rattle.session_fields.proofs.put_at.Goals as goal

pub returns-then-to-at : goal.returns-then-to-at
returns-then-to-at c =
    let a = c.args in
    sym (put_keeps a.to.now a.at a.bytes.now (omega arith))

pub returns-then-to-at-2 : goal.returns-then-to-at-2
returns-then-to-at-2 c =
    let a = c.args in
    sym (put_keeps a.to.now a.at a.bytes.now (omega arith))

pub returns : goal.returns
returns c =
    let a = c.args in
    lent-patched a.to.now a.at a.bytes.now (omega arith) c.copy.ensures ∙ sym (put_stores a.to.now a.at a.bytes.now (omega arith))
