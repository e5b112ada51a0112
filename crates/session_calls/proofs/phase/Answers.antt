-- `session_calls::phase` meets its contract. Assumes nothing.
use Rattle.session_calls.proofs.SessionBytesLaws.{no_phase, phase_told}
use Rattle.session_calls.proofs.phase.Goals as goal

pub returns-then-state-lt278 : goal.returns-then-state-lt278
returns-then-state-lt278 c = no_phase c.args.state.now c.if-state-lt278.true

pub returns : goal.returns
returns c = phase_told c.args.state.now c.if-state-lt278.false c.phase_in.ensures c.phase_number.ensures
