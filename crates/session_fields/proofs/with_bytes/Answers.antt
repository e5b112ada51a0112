-- `session_fields::with_bytes` meets its contract. Assumes nothing.
use Rattle.session_fields.specs.SessionFields.{storing}
use Rattle.session_fields.proofs.with_bytes.Goals as goal

pub returns : goal.returns
unfolding storing
returns c = rw c.put_at.ensures
