-- `session_messages::check_session` meets its contract: the head, the length of the fixed part, and the body. Assumes nothing.
use Rattle.std.proofs.Common.{◌≡◌, ◌+◌, length, arith, sym, ap, ap₂, refl, ◌∙◌, lt-ltb, le-ltb}
use Rattle.numbers.proofs.Tail.{tail_is}
use Rattle.refusals.specs.Outcomes.{outcome}
use Rattle.wire.specs.Header.{total_of}
use Rattle.session_messages.specs.Types.{type_byte}
use Rattle.session_messages.specs.Sessions.{fixed_size, body_refusal}
use Rattle.session_messages.proofs.Passing.{stops, goes, refuses}
use Rattle.session_messages.proofs.SessionLaws.{fixed_small}
use Rattle.session_messages.proofs.Stages.{read_stages, head_is}
use Rattle.session_messages.proofs.check_session.Goals.{In_ok-message}
use Rattle.session_messages.proofs.check_session.Goals as goal

-- what the message is has the type that is read
typed : (c : In_ok-message) → type_byte c.in_ok-message.message ≡ c.type_of.result
typed c = head_is c.type_of.result c.unit_of.result c.number_of.result c.check_head.ensures c.in_ok-message.was

pub returns-in_err-message : goal.returns-in_err-message
returns-in_err-message c = stops _ _ _ _ c.check_head.ensures c.in_err-message.was c.from_residual.ensures.1 (read_stages c.args.m.now _ _ _ c.type_of.ensures c.unit_of.ensures c.number_of.ensures)

pub overflow_add-fixed_size : goal.overflow_add-fixed_size
overflow_add-fixed_size c = omega (arith, c.fixed_size.ensures, fixed_small (type_byte c.in_ok-message.message))

pub returns-then-m-fixed_size : goal.returns-then-m-fixed_size
returns-then-m-fixed_size c =
    let s = goes _ _ c.check_head.ensures c.in_ok-message.was (read_stages c.args.m.now _ _ _ c.type_of.ensures c.unit_of.ensures c.number_of.ensures) in
    let t = ap fixed_size (typed (goal.at.returns-then-m-fixed_size c).In_ok-message) in
    refuses _ c.wrong_total.ensures (omega arith) (s ∙ rw (lt-ltb (length c.args.m.now) (10 + fixed_size c.type_of.result) (omega (arith, c.fixed_size.ensures, t, c.if-m-fixed_size.true))) refl)

pub returns : goal.returns
returns c =
    let s = goes _ _ c.check_head.ensures c.in_ok-message.was (read_stages c.args.m.now _ _ _ c.type_of.ensures c.unit_of.ensures c.number_of.ensures) in
    let t = typed (goal.at.returns c).In_ok-message in
    c.check_body.ensures
    ∙ ap outcome (ap₂ (body_refusal (total_of c.args.m.now)) t (tail_is c.args.m.now 10 (omega arith)) ∙ sym (s ∙ rw (le-ltb (length c.args.m.now) (10 + fixed_size c.type_of.result) (omega (arith, c.fixed_size.ensures, ap fixed_size t, c.if-m-fixed_size.false))) refl))
