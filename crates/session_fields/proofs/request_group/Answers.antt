-- `session_fields::request_group` meets its contract. Assumes nothing.
use mathlib.Core.Path.{ap, ◌∙◌}
use Prim.Native.Nat.{ℕ}
use borrow.Author.Tests.{eq-eqb, ne_eqb}
use Rattle.session_fields.specs.SessionFields.{group_from, request_group}
use Rattle.session_fields.proofs.request_group.Goals as goal

pub returns-then-r-eq55 : goal.returns-then-r-eq55
unfolding request_group
returns-then-r-eq55 c =
    let a = c.args in
    rw (eq-eqb _ _ c.if-r-eq55.true) (c.find_group.ensures ∙ ap (λ (m : ℕ). group_from m a.t a.x 19 a.r.body) c.byte_at.ensures)

pub returns : goal.returns
unfolding request_group
returns c = rw (ne_eqb _ _ c.if-r-eq55.false)
