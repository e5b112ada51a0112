-- What is true of a record's fields: what is set is got. Assumes nothing.
use Rattle.std.specs.Prelude.{◌≡◌, Bool, true, false, cond, List, ℕ, zero, suc, ◌+◌, ◌-◌, ◌/◌, ◌%◌, ◌^◌, ◌≤◌, ◌<◌, eqb, leb, ℤ, Option, None, Some}
use Rattle.std.proofs.Math.Path.{refl, sym, ap}
use Rattle.std.proofs.Common.{ap₂, ◌∙◌, arith}
use Rattle.std.specs.Int.Signed.{mag}
use Rattle.std.proofs.Math.ListN.{length, get_or}
use Rattle.std.proofs.Math.Seq.{get_or-set_same}
use borrow.Author.Tests.{eq-eqb, ne_eqb, le-leb, leb-true, eqb-false}
use Rattle.kinds.specs.declared.Kind.{Kind}
use Rattle.numbers.specs.Numbers.{number_at, bytes_of, patched}
use Rattle.numbers.specs.Prices.{bits_of, signed_of}
use Rattle.numbers.specs.NumberLaws.{length-bytes_of, put_is_there, read_of_written, put_stores}
use Rattle.numbers.specs.PriceLaws.{bits_fit, signed_back}
use Rattle.dictionary.specs.declared.Entry.{Entry}
use Rattle.dictionary.specs.declared.Entry.TheVariants.{Refused, Field}
use Rattle.dictionary.specs.Dictionary.{entry_of}
use Rattle.block.specs.Places.{bit_set}
use Rattle.block.proofs.Dictionaries.{field_fits}
use Rattle.orders.specs.declared.Record.{Record}
use Rattle.order_fields.specs.Named.{place_in, selected_of, optional_of, number_in, price_in, text_in, number_of, price_of, text_of, with_bit, larger, selecting, storing, settable_of, set_in, setting_of}
use Rattle.block.specs.Sizes.{layout_size}

-- ---- an entry's field, by its width

pub placed : {w width p : ℕ} {k : Kind} {e : Entry} → w ≡ width → Field w k p ≡ e → Some p ≡ place_in width e
placed {w} {width} {p} {k} q h = ap (λ (b : Bool). cond b (Some p) None) (sym (eq-eqb w width q)) ∙ ap (place_in width) h

pub misplaced : {w width p : ℕ} {k : Kind} {e : Entry} → (w ≡ width → ⊥) → Field w k p ≡ e → None ≡ place_in width e
misplaced {w} {width} {p} {k} q h = ap (λ (b : Bool). cond b (Some p) None) (sym (ne_eqb w width q)) ∙ ap (place_in width) h

pub unlisted : (width : ℕ) {e : Entry} → Refused ≡ e → None ≡ place_in width e
unlisted width h = ap (place_in width) h

-- ---- a bit that is set is set

added : (x bit : ℕ) → bit < 8 → eqb (x / 2 ^ bit % 2) 1 ≡ false → (x + 2 ^ bit) / 2 ^ bit % 2 ≡ 1
added x zero h e = omega (arith, eqb-false (x / 1 % 2) 1 e)
added x (suc zero) h e = omega (arith, eqb-false (x / 2 % 2) 1 e)
added x (suc (suc zero)) h e = omega (arith, eqb-false (x / 4 % 2) 1 e)
added x (suc (suc (suc zero))) h e = omega (arith, eqb-false (x / 8 % 2) 1 e)
added x (suc (suc (suc (suc zero)))) h e = omega (arith, eqb-false (x / 16 % 2) 1 e)
added x (suc (suc (suc (suc (suc zero))))) h e = omega (arith, eqb-false (x / 32 % 2) 1 e)
added x (suc (suc (suc (suc (suc (suc zero)))))) h e = omega (arith, eqb-false (x / 64 % 2) 1 e)
added x (suc (suc (suc (suc (suc (suc (suc zero))))))) h e = omega (arith, eqb-false (x / 128 % 2) 1 e)
added x (suc (suc (suc (suc (suc (suc (suc (suc n)))))))) h e = absurd (omega (arith, h))

pub bit_is_set : (x bit : ℕ) → bit < 8 → bit_set (with_bit x bit) bit ≡ true
unfolding with_bit
bit_is_set x bit h = by (bit_set x bit) refl
  where
    by : (b : Bool) → bit_set x bit ≡ b → bit_set (cond b x (x + 2 ^ bit)) bit ≡ true
    by true e = e
    by false e = eq-eqb _ _ (added x bit h e)

pub larger_reaches : (a b : ℕ) → b ≤ larger a b
larger_reaches a b = by (leb b a) refl
  where
    by : (t : Bool) → leb b a ≡ t → b ≤ cond t a b
    by true e = leb-true b a e
    by false e = omega arith

-- ---- what is set is got: over any listed bit of any message

-- a record of the type, its arrays whole, and a listed bit
pub record Listed (message byte bit w p : ℕ) (k : Kind) (r : Record) : Type 0 where
  pub of_type : r.message ≡ message
  pub listed : Field w k p ≡ entry_of message byte bit
  pub from_one : 1 ≤ byte
  pub in_bits : byte ≤ length r.bits
  pub low_bit : bit < 8
  pub whole : length r.slots ≡ layout_size

module _ {message byte bit w p : ℕ} {k : Kind} {r : Record} (i : Listed message byte bit w p k r) where
  pub set_at : (bytes : List ℕ) → length bytes ≡ w → setting_of message byte bit bytes r ≡ selecting byte bit (storing p bytes r)
  unfolding setting_of settable_of
  set_at bytes l =
      let e : settable_of message byte bit (length bytes) r ≡ Some p =
      ap (λ (b : Bool). cond b (place_in (length bytes) (entry_of message byte bit)) None) (eq-eqb _ _ i.of_type) ∙ sym (placed (sym l) i.listed) in
      ap (λ (f : Option ℕ). set_in f byte bit bytes r) e

  selected_then : (bytes : List ℕ) → selected_of message byte bit (selecting byte bit (storing p bytes r)) ≡ true
  unfolding selected_of selecting storing
  selected_then bytes =
      let a : byte - 1 < length r.bits = omega (arith, i.from_one, i.in_bits) in
      let x = get_or r.bits (byte - 1) 0 in
      rw (eq-eqb _ _ i.of_type, le-leb _ _ (larger_reaches r.count byte), get_or-set_same r.bits (byte - 1) (with_bit x bit) 0 a) (bit_is_set x bit i.low_bit)

  -- a field that is set stands where the dictionary has it
  pub set_is_found : (bytes : List ℕ) → length bytes ≡ w → optional_of message byte bit w (setting_of message byte bit bytes r) ≡ Some p
  unfolding optional_of
  set_is_found bytes l =
      ap (optional_of message byte bit w) (set_at bytes l)
      ∙ ap (λ (b : Bool). cond b (place_in w (entry_of message byte bit)) None) (selected_then bytes)
      ∙ sym (placed refl i.listed)

  pub set_slots : (bytes : List ℕ) → length bytes ≡ w → (setting_of message byte bit bytes r).slots ≡ patched r.slots p bytes
  unfolding selecting storing
  set_slots bytes l = ap (λ (o : Record). o.slots) (set_at bytes l)

  -- and its slot holds the bytes that were set
  pub set_is_held : (bytes : List ℕ) → length bytes ≡ w → text_of w message byte bit (setting_of message byte bit bytes r) ≡ Some bytes
  set_is_held bytes l =
      let h : p + length bytes ≤ length r.slots = omega (arith, field_fits message byte bit i.listed, i.whole, l) in
      ap₂ (λ (f : Option ℕ) (s : List ℕ). text_in w f s) (set_is_found bytes l) (set_slots bytes l)
      ∙ ap (λ (t : List ℕ). Some t) (put_is_there r.slots p bytes w l h)

  -- the number of a field that was set
  set_number : (v : ℕ) → v < 256 ^ w → number_at w p (setting_of message byte bit (bytes_of w v) r).slots ≡ v
  set_number v h =
      let l = length-bytes_of w v in
      let f : p + w ≤ length r.slots = omega (arith, field_fits message byte bit i.listed, i.whole) in
      let g : p + length (bytes_of w v) ≤ length r.slots = omega (arith, f, l) in
      ap (number_at w p) (set_slots (bytes_of w v) l ∙ sym (put_stores r.slots p (bytes_of w v) g))
      ∙ read_of_written w v p r.slots h f

  -- and it is got, whatever its width
  pub number_set_is_got : (v : ℕ) → v < 256 ^ w → number_of w message byte bit (setting_of message byte bit (bytes_of w v) r) ≡ Some v
  number_set_is_got v h =
      ap (λ (f : Option ℕ). number_in w f (setting_of message byte bit (bytes_of w v) r).slots) (set_is_found (bytes_of w v) (length-bytes_of w v))
      ∙ ap (λ (x : ℕ). Some x) (set_number v h)

pub price_set_is_got : {message byte bit p : ℕ} {k : Kind} {r : Record} → Listed message byte bit 8 p k r → (v : ℤ) → mag v < 9223372036854775808
    → price_of message byte bit (setting_of message byte bit (bytes_of 8 (bits_of v)) r) ≡ Some v
price_set_is_got {message} {byte} {bit} {p} {k} {r} i v h =
    ap (λ (f : Option ℕ). price_in f (setting_of message byte bit (bytes_of 8 (bits_of v)) r).slots) (set_is_found i (bytes_of 8 (bits_of v)) refl)
    ∙ ap (λ (x : ℤ). Some x) (ap signed_of (set_number i (bits_of v) (bits_fit v h)) ∙ signed_back v h)
