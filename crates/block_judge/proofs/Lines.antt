-- What is asked before a message goes by its own line, type by type. Assumes nothing.
use mathlib.Core.Path.{◌≡◌, refl}
use mathlib.Core.Bool.{Bool, true, false, false≢true}
use mathlib.Core.List.{List}
use Prim.Native.Nat.{ℕ}
use lib.Dec.{eqb}
use borrow.Author.Tests.{ne_eqb, eqb-true}
use Rattle.block_judge.specs.State.{blank_after, plain}

module _ (message count : ℕ) (bits : List ℕ) where
  -- each of the four types
  pub in_new_order : message ≡ 0x38 → blank_after 10 count bits ≡ plain message count bits
  in_new_order e = rw e

  pub in_cancel_order : message ≡ 0x39 → blank_after 1 count bits ≡ plain message count bits
  in_cancel_order e = rw e

  pub in_acknowledgment : message ≡ 0x25 → blank_after 5 count bits ≡ plain message count bits
  in_acknowledgment e = rw e

  pub in_execution : message ≡ 0x2C → blank_after 3 count bits ≡ plain message count bits
  in_execution e = rw e

  -- any other
  pub in_others : (message ≡ 0x38 → ⊥) → (message ≡ 0x39 → ⊥) → (message ≡ 0x25 → ⊥) → (message ≡ 0x2C → ⊥) → false ≡ plain message count bits
  in_others a b c d = rw (ne_eqb message 0x38 a, ne_eqb message 0x39 b, ne_eqb message 0x25 c, ne_eqb message 0x2C d)

  -- a plain message of none of three types is of the fourth
  pub only_execution : (message ≡ 0x38 → ⊥) → (message ≡ 0x39 → ⊥) → (message ≡ 0x25 → ⊥) → plain message count bits ≡ true → message ≡ 0x2C
  only_execution a b c p = by (eqb message 0x2C) refl
    where
      by : (t : Bool) → eqb message 0x2C ≡ t → message ≡ 0x2C
      by true e = eqb-true message 0x2C e
      by false e = absurd (false≢true (rw (ne_eqb message 0x38 a, ne_eqb message 0x39 b, ne_eqb message 0x25 c, e) at p))
