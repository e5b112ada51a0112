-- `kinds::is_name` meets its contract. Assumes nothing.
use mathlib.Core.Path.{refl, sym, ap, ◌∙◌}
use mathlib.Core.Bool.{◌&&◌, and-true}
use Rattle.kinds.specs.Kinds.{follows, steady}
use Rattle.kinds.proofs.KindLaws.{steady_text}
use Rattle.kinds.proofs.Walk.{goes_on, walk_end}
use Rattle.kinds.proofs.is_name.Goals as goal

pub loop-byte-init : goal.loop-byte-init
loop-byte-init c = let s = c.args.s.now in and-true (steady 1 s) ∙ steady_text 1 refl s

pub loop-byte-preserved : goal.loop-byte-preserved
loop-byte-preserved c =
    let p = c.loop-byte.prev in
    let o = c.loop-byte.ok in
    let next = c.both-ok.ensures ∙ ap (λ t. t && o) c.fine.ensures in
    goes_on (steady p) steady (follows p) (λ b bs. refl) c.args.s.now c.loop-byte.byte-index c.loop-byte-test.true o _ _ next c.loop-byte.invariant

pub returns : goal.returns
returns c =
    ap (λ r. r && c.loop-byte.ok) (sym (walk_end (steady c.loop-byte.prev) c.args.s.now c.loop-byte.byte-index c.loop-byte-test.false)) ∙ c.loop-byte.invariant
