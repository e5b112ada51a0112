-- `session_messages::check_text` meets its contract. Assumes nothing.
use Rattle.std.proofs.Common.{arith, ◌∙◌}
use Rattle.session_messages.proofs.Passing.{field_last}
use Rattle.session_messages.proofs.check_text.Goals as goal

pub returns : goal.returns
returns c = c.check_value.ensures ∙ field_last _ 11 (omega arith)
