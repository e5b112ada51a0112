-- A record with a field set, one with a RiskGroupID set, and a byte with a bit set. Assumes nothing.
use mathlib.Core.Path.{◌≡◌, refl, sym, ap, ap₂, ◌∙◌}
use mathlib.Core.Bool.{Bool, false}
use mathlib.Core.List.{List}
use Rattle.std.specs.Prelude.{Option, None, Some}
use Prim.Native.Nat.{ℕ, zero, suc, ◌+◌, ◌*◌, ◌/◌, ◌%◌, ◌^◌, ◌<◌}
use native.Mathlib.Omega.{arith}
use lib.Dec.{eqb}
use lib.ListN.{length}
use borrow.Author.Tests.{eqb-false, lt-ltb}
use Rattle.orders.specs.declared.Record.{Record}
use Rattle.numbers.specs.Numbers.{bytes_of}
use Rattle.order_fields.specs.Named.{choose, larger, selecting, storing, settable_of, set_in, setting_of, fixing_of, risk_group_count, with_risk_group, risk_group_setting}

-- ---- a record with a field set, by bytes as many as its width

module _ (message byte bit w : ℕ) (bytes : List ℕ) (r : Record) (l : length bytes ≡ w) where
  by_width : (f : Option ℕ) → f ≡ settable_of message byte bit w r → set_in f byte bit bytes r ≡ setting_of message byte bit bytes r
  unfolding setting_of
  by_width f h =
      ap (λ (x : Option ℕ). set_in x byte bit bytes r) h
      ∙ ap (λ (n : ℕ). set_in (settable_of message byte bit n r) byte bit bytes r) (sym l)

  pub set_selected : {f : Option ℕ} {at : ℕ} {s o : Record} → f ≡ settable_of message byte bit w r → f ≡ Some at
      → s ≡ storing at bytes r → o ≡ selecting byte bit s → o ≡ setting_of message byte bit bytes r
  set_selected {f} h e p q = q ∙ ap (selecting byte bit) p ∙ ap (λ (x : Option ℕ). set_in x byte bit bytes r) (sym e) ∙ by_width f h

  pub set_unselected : {f : Option ℕ} → f ≡ settable_of message byte bit w r → f ≡ None → r ≡ setting_of message byte bit bytes r
  set_unselected {f} h e = ap (λ (x : Option ℕ). set_in x byte bit bytes r) (sym e) ∙ by_width f h

-- ---- a record with a RiskGroupID set

module _ (i id : ℕ) (r : Record) where
  pub raised_and_set : {n count : ℕ} {s o : Record} → i < 10 → n ≡ risk_group_count r → count ≡ larger n (i + 1)
      → s ≡ fixing_of 0x47 (2 + 2 * i) (bytes_of 2 id) r → o ≡ fixing_of 0x47 1 (bytes_of 1 count) s → o ≡ risk_group_setting i id r
  unfolding risk_group_setting
  raised_and_set {n} {count} {s} {o} h e f p q =
      q
      ∙ ap₂ (λ (x : ℕ) (t : Record). fixing_of 0x47 1 (bytes_of 1 x) t) (f ∙ ap (λ (m : ℕ). larger m (i + 1)) e) p
      ∙ ap (λ (b : Bool). choose b (with_risk_group i id r) r) (sym (lt-ltb i 10 h))

-- ---- a byte with a bit set

pub weight : (bit : ℕ) → bit < 8 → 1 * 2 ^ bit % 256 ≡ 2 ^ bit
weight zero h = refl
weight (suc zero) h = refl
weight (suc (suc zero)) h = refl
weight (suc (suc (suc zero))) h = refl
weight (suc (suc (suc (suc zero)))) h = refl
weight (suc (suc (suc (suc (suc zero))))) h = refl
weight (suc (suc (suc (suc (suc (suc zero)))))) h = refl
weight (suc (suc (suc (suc (suc (suc (suc zero))))))) h = refl
weight (suc (suc (suc (suc (suc (suc (suc (suc n)))))))) h = absurd (omega (arith, h))

pub room : (x bit : ℕ) → x < 256 → bit < 8 → eqb (x / 2 ^ bit % 2) 1 ≡ false → x + 1 * 2 ^ bit % 256 < 256
room x zero l h e = omega (arith, l, eqb-false (x / 1 % 2) 1 e)
room x (suc zero) l h e = omega (arith, l, eqb-false (x / 2 % 2) 1 e)
room x (suc (suc zero)) l h e = omega (arith, l, eqb-false (x / 4 % 2) 1 e)
room x (suc (suc (suc zero))) l h e = omega (arith, l, eqb-false (x / 8 % 2) 1 e)
room x (suc (suc (suc (suc zero)))) l h e = omega (arith, l, eqb-false (x / 16 % 2) 1 e)
room x (suc (suc (suc (suc (suc zero))))) l h e = omega (arith, l, eqb-false (x / 32 % 2) 1 e)
room x (suc (suc (suc (suc (suc (suc zero)))))) l h e = omega (arith, l, eqb-false (x / 64 % 2) 1 e)
room x (suc (suc (suc (suc (suc (suc (suc zero))))))) l h e = omega (arith, l, eqb-false (x / 128 % 2) 1 e)
room x (suc (suc (suc (suc (suc (suc (suc (suc n)))))))) l h e = absurd (omega (arith, h))
