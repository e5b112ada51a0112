-- `wire::wrong_total` meets its contract. Assumes nothing.
use mathlib.Core.Path.{ap, ◌∙◌}
use Prim.Native.Nat.{ℕ, ◌+◌}
use Rattle.refusals.specs.Names.{wrong_total}
use Rattle.refusals.specs.Told.{told}
use Rattle.wire.specs.Header.{total_of}
use Rattle.wire.proofs.wrong_total.Goals as goal

pub returns : goal.returns
unfolding total_of
returns c = c.at.ensures ∙ ap (λ (n : ℕ). told wrong_total (n + 2)) c.length_of-n.ensures
