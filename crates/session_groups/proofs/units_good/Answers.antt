-- `session_groups::units_good` meets its contract: the loop keeps that the walk over the pairs still to come answers what the walk over all does. Assumes nothing.
use Rattle.std.proofs.Common.{◌∙◌, sym, refl, arith, length-set}
use Rattle.session_groups.proofs.Walk.{units_step}
use Rattle.session_groups.proofs.units_good.Goals as goal

pub loop-i-preserved : goal.loop-i-preserved
loop-i-preserved c = (
  length-set c.loop-i.marks _ 1 ∙ c.loop-i.invariant.0,
  sym (units_step c.args.s.now c.loop-i.marks c.args.n c.loop-i.i (omega arith) ∙ rw (sym c.is_free.ensures ∙ c.if-not-is_free.false) refl) ∙ c.loop-i.invariant.1,
)
