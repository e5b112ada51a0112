-- `session_messages::read_session` meets its contract. Assumes nothing.
use Rattle.std.proofs.Common.{◌≡◌, ◌≤◌, length, arith, sym, ap, ◌∙◌, Ok}
use Rattle.numbers.proofs.Tail.{tail_is}
use Rattle.refusals.specs.OutcomeLaws.{passed, good}
use Rattle.session_messages.specs.Sessions.{read_refusal}
use Rattle.session_messages.proofs.Passing.{same}
use Rattle.session_messages.proofs.SessionLaws as laws
use Rattle.session_messages.proofs.SessionTrip.{body_small}
use Rattle.session_messages.proofs.Stages.{read_told, record_is}
use Rattle.session_messages.proofs.read_session.Goals.{In_ok-check_session}
use Rattle.session_messages.proofs.read_session.Goals as goal

accepts : (c : In_ok-check_session) → read_refusal c.args.m.now ≡ 0
accepts c = passed _ _ c.check_session.ensures c.in_ok-check_session.was

ten : (c : In_ok-check_session) → 10 ≤ length c.args.m.now
ten c = omega (arith, (laws.good c.args.m.now (passed _ _ c.check_session.ensures c.in_ok-check_session.was)).there)

pub returns-in_err-check_session : goal.returns-in_err-check_session
returns-in_err-check_session c = same _ _ _ c.check_session.ensures c.in_err-check_session.was c.from_residual.ensures.1 ∙ sym (read_told c.args.m.now)

pub slice_bounds-copy-count : goal.slice_bounds-copy-count
slice_bounds-copy-count c = ten (goal.at.slice_bounds-copy-count c).In_ok-check_session

pub slice_bounds-copy-start : goal.slice_bounds-copy-start
slice_bounds-copy-start c = ten (goal.at.slice_bounds-copy-start c).In_ok-check_session

pub copy-requires : goal.copy-requires
copy-requires c =
    let m = c.args.m.now in
    omega (arith, ap length (tail_is m 10 (ten (goal.at.copy-requires c).In_ok-check_session)), body_small m (accepts (goal.at.copy-requires c).In_ok-check_session))

pub returns : goal.returns
returns c =
    let m = c.args.m.now in
    ap Ok (record_is m (ten (goal.at.returns c).In_ok-check_session) c.type_of.result c.unit_of.result c.number_of.result _ c.type_of.ensures c.unit_of.ensures c.number_of.ensures c.copy.ensures)
    ∙ good _ _ (accepts (goal.at.returns c).In_ok-check_session)
    ∙ sym (read_told m)
