-- `session_fields::login_request::listed` meets its contract. Assumes nothing.
use mathlib.Core.Path.{ap, ◌∙◌}
use Prim.Native.Nat.{ℕ}
use Rattle.std.specs.Prelude.{Option}
use Rattle.session_fields.specs.SessionFields.{group_listed}
use Rattle.session_fields.proofs.login_request.listed.Goals as goal

pub returns : goal.returns
returns c =
    let a = c.args in
    c.group_listed.ensures ∙ ap (λ (p : Option ℕ). group_listed p a.unit.0 a.r) c.request_group.ensures
