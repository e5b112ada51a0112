-- `session_groups::groups_end` meets its contract: the loop keeps the place, and that the groups from there end where all of them do. Assumes nothing.
use Rattle.std.proofs.Common.{◌∙◌, sym, ap, arith}
use Rattle.session_groups.specs.Answers.{end_of}
use Rattle.session_groups.proofs.Walk.{going_stop, going_on}
use Rattle.session_groups.proofs.groups_end.Goals as goal

pub returns-in_err-g : goal.returns-in_err-g
returns-in_err-g c = c.from_residual.ensures ∙ ap end_of (sym (going_stop c.args.count c.args.s.now c.loop.marks c.loop.at c.loop.counter c.loop.invariant (omega arith) c.in_err-g.ensures))

pub overflow_add-at : goal.overflow_add-at
overflow_add-at c =
    let g = going_on c.args.count c.args.s.now c.loop.marks c.loop.at c.loop.counter c.loop.invariant (omega arith) c.in_ok-g.ensures.0 c.in_ok-g.ensures.1 c.in_ok-g.ensures.2 in
    omega (arith, g.1, c.loop.invariant.near)

pub loop-preserved : goal.loop-preserved
loop-preserved c =
    let g = going_on c.args.count c.args.s.now c.loop.marks c.loop.at c.loop.counter c.loop.invariant (omega arith) c.in_ok-g.ensures.0 (c.place_of.ensures ∙ c.in_ok-g.ensures.1) c.in_ok-g.ensures.2 in
    g.2
