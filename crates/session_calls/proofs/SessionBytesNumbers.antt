-- What stands beside a book that was opened or restarted, by the number n that the call tells. Assumes nothing.
use Rattle.std.specs.Prelude.{◌≡◌, ℕ}
use Rattle.std.proofs.Math.Path.{refl, sym, ap}
use Rattle.std.proofs.Common.{◌∙◌}
use Rattle.std.proofs.Math.Bool.{cond}
use mathlib.Core.List.{List}
use Rattle.std.proofs.Math.Dec.{eqb}
use borrow.Author.Tests.{eq-eqb}
use Rattle.numbers.specs.Numbers.{patched}
use Rattle.orders.specs.declared.Market.{Market}
use Rattle.orders.specs.Markets.{market_of}
use Rattle.session.specs.declared.Phase.TheVariants.{Closed}
use Rattle.session_calls.specs.SessionBytes.{outgoing_at, beside_bytes}
use Rattle.session_calls.proofs.SessionBytesLaws as stages

module _ (s : List ℕ) (n market : ℕ) where
  pub closed_not : (n ≡ 0 → ⊥) → (n ≡ n) × (s ≡ cond (eqb n 0) (patched s outgoing_at (beside_bytes Closed 0 (market_of market))) s)
  closed_not k = (refl, stages.closed_not s n market k)

  pub closed_put : {m : Market} {after : List ℕ} → n ≡ 0 → m ≡ market_of market → after ≡ patched s outgoing_at (beside_bytes Closed 0 m)
      → (0 ≡ n) × (after ≡ cond (eqb n 0) (patched s outgoing_at (beside_bytes Closed 0 (market_of market))) s)
  closed_put z em ea = (sym z, ea ∙ ap (λ (x : Market). patched s outgoing_at (beside_bytes Closed 0 x)) em ∙ rw (eq-eqb n 0 z))
