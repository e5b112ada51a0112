-- `session_messages::check_names` meets its contract: the first name that is bad is told. Assumes nothing.
use Rattle.std.proofs.Common.{arith, ◌∙◌, sym}
use Rattle.session_messages.proofs.Passing.{field_last, field_stops, field_goes}
use Rattle.session_messages.proofs.check_names.Goals as goal

pub returns-in_err-check_value : goal.returns-in_err-check_value
returns-in_err-check_value c = field_stops _ 10 _ (omega arith) c.check_value.ensures c.in_err-check_value.was c.from_residual.ensures.1

pub returns-in_err-check_value-2 : goal.returns-in_err-check_value-2
returns-in_err-check_value-2 c =
    field_stops _ 14 _ (omega arith) c.check_value-2.ensures c.in_err-check_value-2.was c.from_residual-in_err-check_value-2.ensures.1
    ∙ sym (field_goes _ 10 _ c.check_value.ensures c.in_ok-check_value.was)

pub returns : goal.returns
returns c =
    c.check_value-3.ensures
    ∙ field_last _ 18 (omega arith)
    ∙ sym (field_goes _ 10 _ c.check_value.ensures c.in_ok-check_value.was ∙ field_goes _ 14 _ c.check_value-2.ensures c.in_ok-check_value-2.was)
