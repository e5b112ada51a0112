-- `session_messages::body_size` meets its contract. Assumes nothing.
use Rattle.std.specs.Option.{ok_or}
use Rattle.std.proofs.Common.{ap₂, ◌∙◌}
use Rattle.session_messages.specs.Types.{type_byte}
use Rattle.session_messages.specs.Sessions.{body_end}
use Rattle.session_messages.proofs.Passing.{ends_or}
use Rattle.session_messages.proofs.body_size.Goals as goal

pub returns : goal.returns
returns c = c.ok_or.ensures.value ∙ ap₂ ok_or c.body_end.ensures c.new.ensures ∙ ends_or (body_end (type_byte c.args.message) c.args.b.now)
