-- `messages::is_session` meets its contract. Assumes nothing.
use mathlib.Core.Path.{sym, ◌∙◌}
use Rattle.messages.proofs.MessageLaws.{or_yes, or_no}
use Rattle.messages.proofs.is_session.Goals as goal

pub returns-then-of_member : goal.returns-then-of_member
returns-then-of_member c = sym (or_yes _ _ (sym c.of_member.ensures ∙ c.if-of_member.true))

pub returns : goal.returns
returns c = c.of_venue.ensures ∙ sym (or_no _ _ (sym c.of_member.ensures ∙ c.if-of_member.false))
