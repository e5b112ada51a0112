-- `orders::middle_good` meets its contract. Assumes nothing.
use Rattle.orders.specs.Middle.{middle_good}
use mathlib.Core.Path.{ap, ◌∙◌}
use Prim.Native.Nat.{ℕ}
use lib.Dec.{leb}
use borrow.Author.Tests.{eq-eqb, ne_eqb}
use Rattle.orders.proofs.middle_good.Goals as goal

pub returns-then-message-eq71 : goal.returns-then-message-eq71
unfolding middle_good
returns-then-message-eq71 c = ap (λ (n : ℕ). leb n 10) c.byte_at.ensures ∙ rw (eq-eqb _ _ c.if-message-eq71.true)

pub returns : goal.returns
unfolding middle_good
returns c = rw (ne_eqb _ _ c.if-message-eq71.false)
