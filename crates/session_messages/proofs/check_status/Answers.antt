-- `session_messages::check_status` meets its contract: the first value that is bad is told. Assumes nothing.
use Rattle.std.proofs.Common.{arith, ◌∙◌, sym}
use Rattle.session_messages.proofs.Passing.{field_stops, field_goes}
use Rattle.session_messages.proofs.check_status.Goals as goal

pub returns-in_err-check_value : goal.returns-in_err-check_value
returns-in_err-check_value c = field_stops _ 10 _ (omega arith) c.check_value.ensures c.in_err-check_value.was c.from_residual.ensures.1

pub returns : goal.returns
returns c = c.check_text.ensures ∙ sym (field_goes _ 10 _ c.check_value.ensures c.in_ok-check_value.was)
