-- A refused head is the message's refusal, and a refused message leaves the record's buffer. Assumes nothing.
use mathlib.Core.Path.{◌≡◌, ◌∙◌}
use mathlib.Core.List.{List}
use Prim.Native.Nat.{ℕ}
use borrow.Author.Tests.{ne_eqb}
use Rattle.orders.specs.Orders.{head_refusal, read_refusal}
use Rattle.order_reader.specs.Stages.{read_record}

module _ (m : List ℕ) where
  pub refused_by_head : {r : ℕ} → r ≡ head_refusal m → (r ≡ 0 → ⊥) → r ≡ read_refusal m
  unfolding read_refusal
  refused_by_head e n = rw (ne_eqb (head_refusal m) 0 (λ z. n (e ∙ z))) e

  pub refused-keeps : (buffer : List ℕ) {r : ℕ} → r ≡ read_refusal m → (r ≡ 0 → ⊥) → (r ≡ read_refusal m) × (buffer ≡ read_record m buffer)
  unfolding read_record
  refused-keeps buffer e n = (e, rw (ne_eqb (read_refusal m) 0 (λ z. n (e ∙ z))))
