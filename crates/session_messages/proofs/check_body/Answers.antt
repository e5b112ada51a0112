-- `session_messages::check_body` meets its contract: the values, the lists, and the bytes left. Assumes nothing.
use Rattle.std.proofs.Common.{refl, arith, sym, ◌∙◌, eq-eqb, ne_eqb}
use Rattle.refusals.specs.OutcomeLaws.{value_of, good}
use Rattle.wire.specs.Header.{total_of}
use Rattle.session_messages.specs.Types.{type_byte}
use Rattle.session_messages.proofs.Passing.{stops, goes, refuses}
use Rattle.session_messages.proofs.Stages.{body_stages}
use Rattle.session_messages.proofs.check_body.Goals as goal

pub returns-in_err-check_values : goal.returns-in_err-check_values
returns-in_err-check_values c = stops _ _ _ _ c.check_values.ensures c.in_err-check_values.was c.from_residual.ensures.1 (body_stages (total_of c.args.m.now) (type_byte c.args.message) c.args.b.now)

pub returns-in_err-size : goal.returns-in_err-size
returns-in_err-size c = stops _ _ _ _ c.body_size.ensures c.in_err-size.was c.from_residual-in_err-size.ensures.1 (goes _ _ c.check_values.ensures c.in_ok-check_values.was (body_stages (total_of c.args.m.now) (type_byte c.args.message) c.args.b.now))

pub returns-then-size-b : goal.returns-then-size-b
returns-then-size-b c =
    let s = goes _ _ c.body_size.ensures c.in_ok-size.was (goes _ _ c.check_values.ensures c.in_ok-check_values.was (body_stages (total_of c.args.m.now) (type_byte c.args.message) c.args.b.now)) in
    let v = value_of _ _ c.body_size.ensures c.in_ok-size.was in
    refuses _ c.wrong_total.ensures (omega arith) (s ∙ rw (ne_eqb _ _ (λ z. c.if-size-b.true (v ∙ z))) refl)

pub returns : goal.returns
returns c =
    let s = goes _ _ c.body_size.ensures c.in_ok-size.was (goes _ _ c.check_values.ensures c.in_ok-check_values.was (body_stages (total_of c.args.m.now) (type_byte c.args.message) c.args.b.now)) in
    let v = value_of _ _ c.body_size.ensures c.in_ok-size.was in
    good _ _ (s ∙ rw (eq-eqb _ _ (sym v ∙ c.if-size-b.false)) refl)
