-- `session_fields::login_response::bitfields` meets its contract. Assumes nothing.
use mathlib.Core.Path.{ap, ◌∙◌}
use Prim.Native.Nat.{ℕ}
use Rattle.std.specs.Prelude.{Option}
use Rattle.session_fields.specs.SessionFields.{group_bits}
use Rattle.session_fields.proofs.login_response.bitfields.Goals as goal

pub returns : goal.returns
returns c =
    let a = c.args in
    c.group_bits.ensures ∙ ap (λ (p : Option ℕ). group_bits p a.r) c.response_group.ensures
