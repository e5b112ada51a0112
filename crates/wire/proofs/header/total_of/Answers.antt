-- `wire::header::total_of` meets its contract. Assumes nothing.
use Rattle.wire.specs.Header.{total_of}
use mathlib.Core.Path.{ap}
use Prim.Native.Nat.{ℕ, ◌+◌}
use Rattle.wire.proofs.header.total_of.Goals as goal

pub returns : goal.returns
unfolding total_of
returns c = ap (λ (n : ℕ). n + 2) c.length_of-n.ensures
