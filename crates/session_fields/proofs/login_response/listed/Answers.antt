-- `session_fields::login_response::listed` meets its contract. Assumes nothing.
use mathlib.Core.Path.{ap, ◌∙◌}
use Prim.Native.Nat.{ℕ}
use Rattle.std.specs.Prelude.{Option}
use Rattle.session_fields.specs.SessionFields.{group_listed}
use Rattle.session_fields.proofs.login_response.listed.Goals as goal

pub returns : goal.returns
returns c =
    let a = c.args in
    c.group_listed.ensures ∙ ap (λ (p : Option ℕ). group_listed p a.unit.0 a.r) c.response_group.ensures
