-- `venue_calls::bytes::check_size` meets its contract. Assumes nothing.
use Rattle.venue_calls.proofs.VenueBytesLaws.{size_short, size_long}
use Rattle.venue_calls.proofs.bytes.check_size.Goals as goal

pub returns-then-state-lt402 : goal.returns-then-state-lt402
returns-then-state-lt402 c = size_short c.args.state.now c.if-state-lt402.true c.new.ensures

pub returns : goal.returns
returns c = size_long c.args.state.now c.if-state-lt402.false
