-- `kinds::word` meets its contract: a number whose upper half stands above four bytes has the bytes of its lower half and then those of the upper.
-- Assumes nothing.
use mathlib.Core.Path.{sym, ap, ap₂, ◌∙◌}
use mathlib.Core.List.{◌++◌}
use native.Mathlib.Omega.{arith}
use lib.ListN.{take}
use lib.Seq.{take-add}
use Rattle.kinds.proofs.Walk.{tail_is}
use Rattle.kinds.proofs.Joins.{bytes_join}
use Rattle.kinds.proofs.word.Goals as goal

pub returns : goal.returns
returns c =
    let lower = c in
    let s = lower.args.s.now in
    bytes_join 4 4 lower.half.result c.half-2.result (omega arith)
    ∙ ap₂ ◌++◌ lower.half.ensures.0 (c.half-2.ensures.0 ∙ ap (take 4) (tail_is s 4 (omega arith)))
    ∙ sym (take-add 4 4 s)
