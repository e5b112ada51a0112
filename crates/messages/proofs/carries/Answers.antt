-- `messages::carries` meets its contract. Assumes nothing.
use mathlib.Core.Path.{sym, ◌∙◌}
use Rattle.messages.proofs.MessageLaws.{or_yes, or_no, from_member, from_venue, from_options_member, from_none}
use Rattle.messages.proofs.carries.Goals as goal

pub returns-then-direction-eq0 : goal.returns-then-direction-eq0
returns-then-direction-eq0 c = c.of_member.ensures ∙ sym (from_member _ c.args.message c.if-direction-eq0.true)

pub returns-then-of_venue : goal.returns-then-of_venue
returns-then-of_venue c =
    let venue = c in
    let then = venue in
    sym (from_venue _ then.args.message then.if-direction-eq0.false then.if-direction-eq1.true ∙ or_yes _ _ (sym venue.of_venue.ensures ∙ c.if-of_venue.true))

pub returns-then-direction-eq1 : goal.returns-then-direction-eq1
returns-then-direction-eq1 c =
    let venue = c in
    let then = venue in
    c.of_venue-then-direction-eq1.ensures ∙ sym (from_venue _ then.args.message then.if-direction-eq0.false then.if-direction-eq1.true ∙ or_no _ _ (sym venue.of_venue.ensures ∙ c.if-of_venue.false))

pub returns-then-direction-eq2 : goal.returns-then-direction-eq2
returns-then-direction-eq2 c =
    let then = c in
    let other = then in
    c.of_member-then-direction-eq2.ensures ∙ sym (from_options_member _ other.args.message other.if-direction-eq0.false other.if-direction-eq1.false then.if-direction-eq2.true)

pub returns : goal.returns
returns c =
    let other = c in
    sym (from_none _ other.args.message other.if-direction-eq0.false other.if-direction-eq1.false c.if-direction-eq2.false)
