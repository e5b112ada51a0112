-- `session_fields::response_group` meets its contract. Assumes nothing.
use mathlib.Core.Path.{ap, ◌∙◌}
use lib.ListN.{get_or}
use Prim.Native.Nat.{ℕ, ◌+◌, ◌*◌}
use borrow.Author.Tests.{eq-eqb, ne_eqb}
use Rattle.session_fields.specs.SessionFields.{group_from, response_group}
use Rattle.session_fields.proofs.response_group.Goals as goal

pub returns-then-r-eq36 : goal.returns-then-r-eq36
unfolding response_group
returns-then-r-eq36 c =
    let a = c.args in
    let k = c.byte_at.result in
    rw (eq-eqb _ _ c.if-r-eq36.true)
    (c.find_group.ensures
    ∙ ap (λ (m : ℕ). group_from m a.t a.x (67 + 5 * k + 1) a.r.body) c.byte_at-then-r-eq36.ensures
    ∙ ap (λ (m : ℕ). group_from (get_or a.r.body (67 + 5 * m) 0) a.t a.x (67 + 5 * m + 1) a.r.body) c.byte_at.ensures)

pub returns : goal.returns
unfolding response_group
returns c = rw (ne_eqb _ _ c.if-r-eq36.false)
