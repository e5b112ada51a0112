-- `session_fields::login_request::flag` meets its contract. Assumes nothing.
use mathlib.Core.Path.{ap, ◌∙◌}
use Prim.Native.Nat.{ℕ}
use Rattle.std.specs.Prelude.{Option}
use Rattle.session_fields.specs.SessionFields.{group_flag}
use Rattle.session_fields.proofs.login_request.flag.Goals as goal

pub returns : goal.returns
returns c =
    let a = c.args in
    c.group_flag.ensures ∙ ap (λ (p : Option ℕ). group_flag p a.r) c.request_group.ensures
