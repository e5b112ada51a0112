-- `order_writer::check_end` meets its contract. Assumes nothing.
use borrow.Author.Tests.{eq-eqb, ne_eqb}
use mathlib.Core.Path.{sym, ◌∙◌}
use native.Mathlib.Omega.{arith}
use Rattle.refusals.specs.OutcomeLaws.{passed}
use Rattle.orders.proofs.Refusing.{tells, tells_none, passes}
use Rattle.order_writer.specs.Stages.{end_refusal}
use Rattle.order_writer.proofs.check_end.Goals as goal

pub returns-in_err-check_late : goal.returns-in_err-check_late
unfolding end_refusal
returns-in_err-check_late c = passes _ c.check_late.ensures c.in_err-check_late.was c.from_residual.ensures.1 (λ h. rw (ne_eqb _ 0 h))

pub returns-then-not-unused_zero : goal.returns-then-not-unused_zero
unfolding end_refusal
returns-then-not-unused_zero c =
    tells (c.new.ensures ∙ rw (eq-eqb _ 0 (passed _ _ c.check_late.ensures c.in_ok-check_late.was), sym c.unused_zero.ensures ∙ c.if-not-unused_zero.true)) (λ z. omega (arith, c.new.ensures, z))

pub returns : goal.returns
unfolding end_refusal
returns c = tells_none (rw (eq-eqb _ 0 (passed _ _ c.check_late.ensures c.in_ok-check_late.was), sym c.unused_zero.ensures ∙ c.if-not-unused_zero.false))
