-- `order_reader::check_parts` meets its contract: what is judged of the parts is what the definition says of them. Assumes nothing.
use Rattle.wire.specs.Header.{total_of}
use Rattle.refusals.specs.Outcomes.{outcome}
use Rattle.refusals.specs.OutcomeLaws.{passed}
use Rattle.orders.proofs.Refusing.{passes}
use Rattle.order_reader.proofs.Judging.{bad_near, total_near, wrong_near, block_stops, late_decides, optional_right, required_right}
use Rattle.block_judge.specs.Made.{judged_all}
use lib.ListN.{drop}
use mathlib.Core.Path.{refl, ap, ◌∙◌}
use native.Mathlib.Omega.{arith}
use Rattle.order_reader.proofs.check_parts.Goals as goal

pub check_judged-requires : goal.check_judged-requires
check_judged-requires c =
    let all = c.judge_all-t in
    let start = c in
    let a = start.args in
    let k = judged_all a.message a.count a.bits.now a.optional.now all.result all.ensures in
    (start.requires.0, start.requires.2, bad_near (total_of a.m.now) a.message a.count a.bits.now (drop 10 a.m.now) a.rest.now a.optional.now a.size all.result start.requires.3 start.requires.5 k, total_near (total_of a.m.now) a.message a.count a.bits.now (drop 10 a.m.now) a.rest.now a.optional.now a.size all.result start.requires.3 start.requires.5 k, start.requires.4, wrong_near (total_of a.m.now) a.message a.count a.bits.now (drop 10 a.m.now) a.rest.now a.optional.now a.size all.result start.requires.3 start.requires.5 k)

pub returns-in_err-check_judged : goal.returns-in_err-check_judged
returns-in_err-check_judged c =
    let all = c.judge_all-t in
    let a = c.args in
    let k = judged_all a.message a.count a.bits.now a.optional.now all.result all.ensures in
    passes _ c.check_judged.ensures c.in_err-check_judged.was c.from_residual.ensures.1
    (block_stops (total_of a.m.now) a.message a.count a.bits.now (drop 10 a.m.now) a.rest.now a.optional.now a.size all.result c.requires.3 c.requires.5 k refl)

pub check_late-requires : goal.check_late-requires
check_late-requires c =
    let all = c.judge_all-t in
    let start = c in
    let a = start.args in
    let k = judged_all a.message a.count a.bits.now a.optional.now all.result all.ensures in
    let z = passed _ _ c.check_judged.ensures c.in_ok-check_judged.was in
    (omega (arith, start.requires.0), required_right (total_of a.m.now) a.message a.count a.bits.now (drop 10 a.m.now) a.rest.now a.optional.now a.size all.result start.requires.3 start.requires.5 k z, optional_right (total_of a.m.now) a.message a.count a.bits.now (drop 10 a.m.now) a.rest.now a.optional.now a.size all.result start.requires.3 start.requires.5 k z)

pub returns : goal.returns
returns c =
    let all = c.judge_all-t in
    let start = c in
    let a = start.args in
    let k = judged_all a.message a.count a.bits.now a.optional.now all.result all.ensures in
    let z = passed _ _ c.check_judged.ensures c.in_ok-check_judged.was in
    c.check_late.ensures
    ∙ ap outcome (late_decides (total_of a.m.now) a.message a.count a.bits.now (drop 10 a.m.now) a.rest.now a.optional.now a.size all.result start.requires.3 start.requires.5 k z refl)
