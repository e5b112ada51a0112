-- `session_calls::set_phase` meets its contract. Assumes nothing.
use native.Mathlib.Omega.{arith}
use Rattle.session_calls.proofs.SessionBytesLaws.{phase_set}
use Rattle.session_calls.proofs.set_phase.Goals as goal

pub returns : goal.returns
returns c =
    let put = c in
    let market = put in
    let number = market in
    let known = number in
    let start = known in
    let a = start.args in
    phase_set a.state.now a.p (λ i. omega (arith, known.slice_known-1.given i)) start.requires number.outgoing_in-outgoing.ensures market.market_in-market.ensures put.put.ensures
