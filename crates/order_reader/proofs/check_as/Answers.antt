-- `order_reader::check_as` meets its contract: the head's refusal, or that of the body which a good head says the places of. Assumes nothing.
use Rattle.refusals.specs.Outcomes.{outcome}
use Rattle.refusals.specs.OutcomeLaws.{passed}
use Rattle.orders.proofs.Refusing.{passes}
use Rattle.order_reader.proofs.Readings.{refused_by_head}
use Rattle.order_reader.proofs.Typed.{head_under, judged-under}
use Rattle.orders.specs.Markets.{typed}
use mathlib.Core.Path.{refl, ap, ◌∙◌}
use native.Mathlib.Omega.{arith}
use Rattle.order_reader.proofs.check_as.Goals as goal

pub returns-in_err-check_head : goal.returns-in_err-check_head
returns-in_err-check_head c =
    let a = c.args in
    passes _ c.check_head.ensures c.in_err-check_head.was c.from_residual.ensures.1 (refused_by_head (typed a.message a.m.now) refl)

pub bounds-m-at : goal.bounds-m-at
bounds-m-at c =
    let k = head_under c.args.m.now c.args.message _ _ c.requires c.count_at-at.ensures refl (passed _ _ c.check_head.ensures c.in_ok-check_head.was) in
    omega (arith, k.fits)

pub check_body-requires : goal.check_body-requires
check_body-requires c =
    let there = c.count_at-at.ensures in
    let k = head_under c.args.m.now c.args.message _ _ c.requires there refl (passed _ _ c.check_head.ensures c.in_ok-check_head.was) in
    (k.at_least, k.fits, k.few, there)

pub returns : goal.returns
returns c =
    c.check_body.ensures
    ∙ ap outcome (judged-under c.args.m.now c.args.message _ _ c.requires c.count_at-at.ensures refl (passed _ _ c.check_head.ensures c.in_ok-check_head.was) refl)
