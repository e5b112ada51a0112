-- `session_messages::check_values` meets its contract: the values are those of the type. Assumes nothing.
use Rattle.std.proofs.Common.{refl, ap, ◌∙◌, []}
use Rattle.refusals.specs.Outcomes.{outcome_with, outcome}
use Rattle.session_messages.specs.Types.{type_byte}
use Rattle.session_messages.specs.ValueFields.{name_fields, status_fields, reason_fields, value_fields, told_bad}
use Rattle.session_messages.proofs.Passing.{fields_told}
use Rattle.session_messages.proofs.TypeLaws.{no_fields}
use Rattle.session_messages.proofs.check_values.Goals as goal

pub returns-in-LoginRequest : goal.returns-in-LoginRequest
unfolding value_fields
returns-in-LoginRequest c = c.check_names.ensures ∙ ap outcome (fields_told (type_byte c.args.message) c.args.b.now (name_fields c.args.b.now) (rw c.in-LoginRequest.is refl))

pub returns-in-LoginResponse : goal.returns-in-LoginResponse
unfolding value_fields
returns-in-LoginResponse c = c.check_status.ensures ∙ ap outcome (fields_told (type_byte c.args.message) c.args.b.now (status_fields c.args.b.now) (rw c.in-LoginResponse.is refl))

pub returns-in-Logout : goal.returns-in-Logout
unfolding value_fields
returns-in-Logout c = c.check_reason.ensures ∙ ap outcome (fields_told (type_byte c.args.message) c.args.b.now (reason_fields c.args.b.now) (rw c.in-Logout.is refl))

pub returns-in_default : goal.returns-in_default
unfolding told_bad outcome_with
returns-in_default c = ap outcome (fields_told (type_byte c.args.message) c.args.b.now [] (no_fields c.args.message c.args.b.now c.in_default.not-LoginRequest c.in_default.not-LoginResponse c.in_default.not-Logout))
