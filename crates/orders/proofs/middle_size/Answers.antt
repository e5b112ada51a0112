-- `orders::middle_size` meets its contract. Assumes nothing.
use Rattle.orders.specs.Middle.{middle_size}
use mathlib.Core.Path.{ap, ◌∙◌}
use Prim.Native.Nat.{ℕ, ◌+◌, ◌*◌}
use native.Mathlib.Omega.{arith}
use borrow.Author.Tests.{eq-eqb, ne_eqb}
use Rattle.orders.proofs.middle_size.Goals as goal

pub returns-then-message-eq71 : goal.returns-then-message-eq71
unfolding middle_size
returns-then-message-eq71 c = (ap (λ (n : ℕ). 1 + 2 * n) c.byte_at-groups.ensures ∙ rw (eq-eqb _ _ c.if-message-eq71.true), omega arith)

pub returns : goal.returns
unfolding middle_size
returns c = (rw (ne_eqb _ _ c.if-message-eq71.false), omega arith)
