-- `venue_calls::bytes::thresholds_in` meets its contract: unit after unit, each with its number. Assumes nothing.
use Rattle.venue_calls.proofs.VenueBytesLaws.{wants-more, wants_loaded}
use Rattle.venue_calls.proofs.bytes.thresholds_in.Goals as goal

pub loop-i-preserved : goal.loop-i-preserved
loop-i-preserved c = wants-more c.args.state.now c.loop-i.i c.loop-i-test.true c.loop-i.invariant c.read.ensures

pub returns : goal.returns
returns c = wants_loaded c.args.state.now c.loop-i.i c.loop-i.auto.i-end c.loop-i-test.false c.loop-i.invariant
