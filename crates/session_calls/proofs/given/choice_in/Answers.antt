-- `session_calls::given::choice_in` meets its contract: unit after unit. Assumes nothing.
use Rattle.session_calls.specs.LoginBytesLaws.{choose_starts, choose-more, choice_is}
use Rattle.session_calls.proofs.given.choice_in.Goals as goal

pub loop-i-init : goal.loop-i-init
loop-i-init c = choose_starts _

pub loop-i-preserved : goal.loop-i-preserved
loop-i-preserved c =
    let l = c.loop-i in
    choose-more _ l.units l.i c.loop-i-test.true l.invariant c.byte_at.ensures

pub returns : goal.returns
returns c =
    let l = c.loop-i in
    choice_is c.args.given.now l.units l.i c.loop-i-test.false l.invariant c.byte_at-2.ensures c.byte_at-3.ensures c.byte_at-4.ensures
