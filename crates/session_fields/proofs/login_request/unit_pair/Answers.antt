-- `session_fields::login_request::unit_pair` meets its contract. Assumes nothing.
use mathlib.Core.Path.{ap, ◌∙◌}
use Prim.Native.Nat.{ℕ}
use Rattle.std.specs.Prelude.{Option}
use Rattle.session_fields.specs.SessionFields.{group_pair}
use Rattle.session_fields.proofs.login_request.unit_pair.Goals as goal

pub returns : goal.returns
returns c =
    let a = c.args in
    c.group_pair.ensures ∙ ap (λ (p : Option ℕ). group_pair p a.i a.r) c.request_group.ensures
