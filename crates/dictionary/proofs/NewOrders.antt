-- What is a New Order, of either market. Assumes nothing.
use Rattle.std.specs.Prelude.{◌≡◌, ◌⊎◌, true, false, ℕ}
use Rattle.std.proofs.Common.{inl, inr, ne_eqb}
use Rattle.dictionary.specs.Dictionary.{is_new_order}

pub a-new_order : (message : ℕ) → (message ≡ 0x38) ⊎ (message ≡ 0xB8) → is_new_order message ≡ true
a-new_order message (inl e) = rw e
a-new_order message (inr e) = rw e

pub no_new_order : (message : ℕ) → ((message ≡ 0x38) ⊎ (message ≡ 0xB8) → ⊥) → is_new_order message ≡ false
no_new_order message n = rw (ne_eqb message 0x38 (λ e. n (inl e)), ne_eqb message 0xB8 (λ e. n (inr e)))
