-- `venue_calls::bytes::load` meets its contract: part by part. Assumes nothing.
use Rattle.std.specs.Prelude.{Ok}
use Rattle.std.proofs.Common.{ap, ◌∙◌, arith}
use Rattle.refusals.specs.OutcomeLaws.{passed, good}
use Rattle.venue.specs.declared.Venue.{Venue}
use Rattle.venue_calls.specs.VenueBytes.{called, venue_of}
use Rattle.venue.proofs.Told.{pass, told_on}
use Rattle.venue_calls.proofs.VenueBytesLaws.{venue_read, holds_one}
use Rattle.venue_calls.proofs.bytes.load.Goals as goal

pub returns-in_err-check_size : goal.returns-in_err-check_size
returns-in_err-check_size c = pass c.from_residual.ensures.1 (told_on (called c.args.state.now 0) _ _ c.check_size.ensures c.in_err-check_size.was)

pub extent_in-e-requires : goal.extent_in-e-requires
extent_in-e-requires c = omega (arith, holds_one c.args.state.now (passed _ _ c.check_size.ensures c.in_ok-check_size.was))

pub thresholds_in-requires : goal.thresholds_in-requires
thresholds_in-requires c = omega (arith, holds_one c.args.state.now (passed _ _ c.check_size.ensures c.in_ok-check_size.was))

pub returns : goal.returns
returns c =
    let state = c.args.state.now in
    ap (λ (v : Venue). Ok v) (venue_read state c.table_in.ensures c.extent_in-e.ensures c.thresholds_in.ensures c.byte_at.ensures c.byte_at-2.ensures) ∙ good (called state 0) (venue_of state) (passed _ _ c.check_size.ensures c.in_ok-check_size.was)
