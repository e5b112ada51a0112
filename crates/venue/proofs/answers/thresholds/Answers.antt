-- `venue::answers::thresholds` meets its contract: unit after unit, each with its number. Assumes nothing.
use Rattle.std.proofs.Common.{arith}
use Rattle.session_fields.specs.AskedFor.{asked_above}
use Rattle.venue.proofs.LoginLaws.{fill_more, fill_done}
use Rattle.venue.proofs.answers.thresholds.Goals as goal

pub loop-i-preserved : goal.loop-i-preserved
loop-i-preserved c = fill_more (asked_above c.args.r) c.loop-i.i c.loop-i-test.true c.loop-i.invariant c.threshold.ensures

pub returns : goal.returns
returns c = fill_done c.args.r c.loop-i.i (omega (arith, c.loop-i.auto.i-end, c.loop-i-test.false)) c.loop-i.invariant
