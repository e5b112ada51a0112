-- `messages::of_member` meets its contract. Assumes nothing.
use mathlib.Core.Path.{sym, ◌∙◌}
use Rattle.messages.proofs.MessageLaws.{or_yes, or_no}
use Rattle.messages.proofs.of_member.Goals as goal

pub returns-then-of_market : goal.returns-then-of_market
returns-then-of_market c = sym (or_yes _ _ (sym c.of_market.ensures ∙ c.if-of_market.true))

pub returns : goal.returns
returns c = c.of_member.ensures ∙ sym (or_no _ _ (sym c.of_market.ensures ∙ c.if-of_market.false))
