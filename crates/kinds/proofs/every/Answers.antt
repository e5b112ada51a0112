-- `kinds::every` meets its contract. Assumes nothing.
use mathlib.Core.Path.{refl, sym, ap, ◌∙◌}
use mathlib.Core.Bool.{◌&&◌}
use Rattle.kinds.specs.Kinds.{allowed, all_allowed}
use Rattle.kinds.proofs.Walk.{goes_on, walk_end}
use Rattle.kinds.proofs.every.Goals as goal

pub loop-byte-preserved : goal.loop-byte-preserved
loop-byte-preserved c =
    let k = c.args.kind in
    let o = c.loop-byte.ok in
    let next = c.both-ok.ensures ∙ ap (λ t. t && o) c.is_allowed.ensures in
    goes_on (all_allowed k) (λ b. all_allowed k) (allowed k) (λ b bs. refl) c.args.s.now c.loop-byte.byte-index c.loop-byte-test.true o _ _ next c.loop-byte.invariant

pub returns : goal.returns
returns c =
    ap (λ r. r && c.loop-byte.ok) (sym (walk_end (all_allowed c.args.kind) c.args.s.now c.loop-byte.byte-index c.loop-byte-test.false)) ∙ c.loop-byte.invariant
