-- `session_fields::set_bytes` meets its contract. Assumes nothing.
use borrow.Author.Tests.{eq-eqb, ne_eqb}
use Rattle.session_fields.specs.SessionFields.{setting_of}
use Rattle.session_fields.proofs.set_bytes.Goals as goal

pub returns-then-r-message : goal.returns-then-r-message
unfolding setting_of
returns-then-r-message c = rw (eq-eqb _ _ c.if-r-message.true) c.with_bytes.ensures

pub returns : goal.returns
unfolding setting_of
returns c = rw (ne_eqb _ _ c.if-r-message.false)
