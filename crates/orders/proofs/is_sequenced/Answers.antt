-- `orders::is_sequenced` meets its contract. Assumes nothing.
use mathlib.Core.Logic.{⊎_elim, inl, inr}
use mathlib.Core.Path.{◌≡◌}
use borrow.Author.Tests.{ne_eqb}
use Rattle.orders.proofs.is_sequenced.Goals as goal

pub returns-in-37 : goal.returns-in-37
returns-in-37 c =
    let m = c.args.message in
    ⊎_elim (λ (e : m ≡ 0x25). rw e) (λ (e : m ≡ 0x2C). rw e) c.in-37.is

pub returns-in_default : goal.returns-in_default
returns-in_default c =
    let m = c.args.message in
    simp (ne_eqb m 0x25 (λ e. c.in_default.in_default-own.rest.1 (inl e)), ne_eqb m 0x2C (λ e. c.in_default.in_default-own.rest.1 (inr e)))
