-- `kinds::is_blank` meets its contract. Assumes nothing.
use mathlib.Core.Path.{refl, sym, ap, ◌∙◌}
use mathlib.Core.Bool.{◌&&◌}
use lib.Dec.{eqb}
use Rattle.kinds.specs.Kinds.{all_nul}
use Rattle.kinds.proofs.Walk.{goes_on, walk_end}
use Rattle.kinds.proofs.is_blank.Goals as goal

pub loop-byte-preserved : goal.loop-byte-preserved
loop-byte-preserved c =
    goes_on all_nul (λ b. all_nul) (λ b. eqb b 0) (λ b bs. refl) c.args.s.now c.loop-byte.byte-index c.loop-byte-test.true c.loop-byte.ok _ _ c.both-ok.ensures c.loop-byte.invariant

pub returns : goal.returns
returns c =
    ap (λ r. r && c.loop-byte.ok) (sym (walk_end all_nul c.args.s.now c.loop-byte.byte-index c.loop-byte-test.false)) ∙ c.loop-byte.invariant
