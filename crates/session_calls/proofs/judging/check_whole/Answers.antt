-- `session_calls::judging::check_whole` meets its contract. Assumes nothing.
use Rattle.std.proofs.Common.{refl, sym, ap, ◌∙◌, arith}
use Rattle.orders.specs.Shapes as order_types
use Rattle.session_messages.specs.Sessions as sessions
use Rattle.book_calls.proofs.Passing.{refuses, answers}
use Rattle.session_calls.specs.Judged.{judged_order, judged_session, judged-none}
use Rattle.session_calls.proofs.judging.check_whole.Goals as goal

pub returns-then-of_venue : goal.returns-then-of_venue
returns-then-of_venue c =
    answers _ c.check_order.ensures (judged_order c.args.m.now (ap order_types.of_venue (sym c.type_of-message.ensures) ∙ sym c.of_venue.ensures ∙ c.if-of_venue.true) refl)

pub returns-then-of_venue-2 : goal.returns-then-of_venue-2
returns-then-of_venue-2 c =
    answers _ c.check_session.ensures
    (judged_session c.args.m.now (ap order_types.of_venue (sym c.type_of-message.ensures) ∙ sym c.of_venue.ensures ∙ c.if-of_venue.false)
    (ap sessions.of_venue (sym c.type_of-message.ensures) ∙ sym c.of_venue-2.ensures ∙ c.if-of_venue-2.true) refl)

pub returns : goal.returns
returns c =
    refuses _ c.new.ensures (omega arith)
    (judged-none c.args.m.now (ap order_types.of_venue (sym c.type_of-message.ensures) ∙ sym c.of_venue.ensures ∙ c.if-of_venue.false)
    (ap sessions.of_venue (sym c.type_of-message.ensures) ∙ sym c.of_venue-2.ensures ∙ c.if-of_venue-2.false))
