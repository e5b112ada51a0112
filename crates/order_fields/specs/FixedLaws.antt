-- What is true of the fields of a record's fixed part: what is set is got, and the rest of the record stays as it was.
-- Assumes nothing.
use Rattle.std.specs.Prelude.{◌≡◌, refl, ◌⊎◌, Bool, true, false, List, ℕ, ◌+◌, ◌^◌, ◌≤◌, ◌<◌, cond, eqb, ℤ, length, take, drop, Option, None, Some}
use Rattle.std.proofs.Common.{sym, ap₂, ◌∙◌, ⊎_elim, arith, eq-eqb}
use Rattle.std.proofs.Math.Path.{ap}
use Rattle.std.specs.Int.Signed.{mag}
use Rattle.numbers.specs.Numbers.{number_at, bytes_of, patched}
use Rattle.numbers.specs.Prices.{bits_of, signed_of}
use Rattle.numbers.specs.NumberLaws.{length-bytes_of, put_is_there, read_of_written, put_stores}
use Rattle.numbers.specs.PriceLaws.{bits_fit, signed_back}
use Rattle.orders.specs.declared.Record.{Record}
use Rattle.order_fields.specs.Named.{fixed_of, number_in, price_in, text_in, number_fixed, price_fixed, text_fixed, choose, fixing, fixing_of}
use Rattle.order_fields.specs.OtherLaws.{kept-after, kept-before}
use Rattle.order_fields.specs.LocalLaws.{Local, got_alike}
use Rattle.block.specs.Sizes.{fixed_size}

-- ---- setting a field of the fixed part leaves all but the fixed part, in a record of any type

pub record SameElsewhere (o r : Record) : Type 0 where
  pub same_message : o.message ≡ r.message
  pub same-unit : o.unit ≡ r.unit
  pub same_number : o.number ≡ r.number
  pub same_count : o.count ≡ r.count
  pub same_bits : o.bits ≡ r.bits
  pub same_slots : o.slots ≡ r.slots

pub fixing_keeps_the_rest : (message at : ℕ) (bytes : List ℕ) (r : Record) → SameElsewhere (fixing_of message at bytes r) r
unfolding fixing_of fixing
fixing_keeps_the_rest message at bytes r = by (eqb r.message message)
  where
    by : (b : Bool) → SameElsewhere (choose b (fixing at bytes r) r) r
    by true = record { same_message = refl; same-unit = refl; same_number = refl; same_count = refl; same_bits = refl; same_slots = refl }
    by false = record { same_message = refl; same-unit = refl; same_number = refl; same_count = refl; same_bits = refl; same_slots = refl }

-- ---- what is set is got: over any place and width

-- a record of the type, its fixed part whole, and a place of w bytes in it
pub record Part (message at w : ℕ) (r : Record) : Type 0 where
  pub of_type : r.message ≡ message
  pub whole : length r.fixed ≡ fixed_size
  pub fits : at + w ≤ fixed_size

module _ {message at w : ℕ} {r : Record} (i : Part message at w r) where
  fix_at : (bytes : List ℕ) → fixing_of message at bytes r ≡ fixing at bytes r
  unfolding fixing_of
  fix_at bytes = ap (λ (b : Bool). choose b (fixing at bytes r) r) (eq-eqb _ _ i.of_type)

  -- a field of the fixed part is there before and after
  pub fixed_is_found : (bytes : List ℕ) → fixed_of message at (fixing_of message at bytes r) ≡ Some at
  unfolding fixed_of
  fixed_is_found bytes =
      ap (λ (m : ℕ). cond (eqb m message) (Some at) None) ((fixing_keeps_the_rest message at bytes r).same_message ∙ i.of_type)
      ∙ ap (λ (b : Bool). cond b (Some at) None) (eq-eqb message message refl)

  pub fixed-part : (bytes : List ℕ) → (fixing_of message at bytes r).fixed ≡ patched r.fixed at bytes
  unfolding fixing
  fixed-part bytes = ap (λ (o : Record). o.fixed) (fix_at bytes)

  -- and its place holds the bytes that were set
  pub fixed_is_held : (bytes : List ℕ) → length bytes ≡ w → text_fixed w message at (fixing_of message at bytes r) ≡ Some bytes
  fixed_is_held bytes l =
      let h : at + length bytes ≤ length r.fixed = omega (arith, i.fits, i.whole, l) in
      ap₂ (λ (f : Option ℕ) (s : List ℕ). text_in w f s) (fixed_is_found bytes) (fixed-part bytes)
      ∙ ap (λ (t : List ℕ). Some t) (put_is_there r.fixed at bytes w l h)

  -- the number of a field that was set
  fixed_number : (v : ℕ) → v < 256 ^ w → number_at w at (fixing_of message at (bytes_of w v) r).fixed ≡ v
  fixed_number v h =
      let f : at + w ≤ length r.fixed = omega (arith, i.fits, i.whole) in
      let g : at + length (bytes_of w v) ≤ length r.fixed = omega (arith, f, length-bytes_of w v) in
      ap (number_at w at) (fixed-part (bytes_of w v) ∙ sym (put_stores r.fixed at (bytes_of w v) g))
      ∙ read_of_written w v at r.fixed h f

  -- and it is got, whatever its width
  pub number_fixed_is_got : (v : ℕ) → v < 256 ^ w → number_fixed w message at (fixing_of message at (bytes_of w v) r) ≡ Some v
  number_fixed_is_got v h =
      ap (λ (f : Option ℕ). number_in w f (fixing_of message at (bytes_of w v) r).fixed) (fixed_is_found (bytes_of w v))
      ∙ ap (λ (x : ℕ). Some x) (fixed_number v h)

pub price_fixed_is_got : {message at : ℕ} {r : Record} → Part message at 8 r → (v : ℤ) → mag v < 9223372036854775808
    → price_fixed message at (fixing_of message at (bytes_of 8 (bits_of v)) r) ≡ Some v
price_fixed_is_got {message} {at} {r} i v h =
    ap (λ (f : Option ℕ). price_in f (fixing_of message at (bytes_of 8 (bits_of v)) r).fixed) (fixed_is_found i (bytes_of 8 (bits_of v)))
    ∙ ap (λ (x : ℤ). Some x) (ap signed_of (fixed_number i (bits_of v) (bits_fit v h)) ∙ signed_back v h)

-- ---- setting a field of the fixed part leaves every part of it that lies apart

module _ {message at w : ℕ} {r : Record} (i : Part message at w r) (bytes : List ℕ) (l : length bytes ≡ w) (at' w' : ℕ) (apart : (at + w ≤ at') ⊎ (at' + w' ≤ at)) where
  pub other_fixed_kept : take w' (drop at' (fixing_of message at bytes r).fixed) ≡ take w' (drop at' r.fixed)
  other_fixed_kept =
      let h : at + length bytes ≤ length r.fixed = omega (arith, i.fits, i.whole, l) in
      ap (λ (s : List ℕ). take w' (drop at' s)) (fixed-part i bytes)
      ∙ ⊎_elim
      (λ (x : at + w ≤ at'). ap (take w') (kept-after r.fixed at bytes at' h (omega (arith, x, l))))
      (λ (x : at' + w' ≤ at). kept-before r.fixed at bytes at' w' (omega (arith, h)) x)
      apart

  -- so every getter of another field of the fixed part answers the same before and after
  pub other_fixed_field_kept : {A : Type 0} {get : Option ℕ → List ℕ → A} → Local get w' at'
      → get (fixed_of message at' (fixing_of message at bytes r)) (fixing_of message at bytes r).fixed ≡ get (fixed_of message at' r) r.fixed
  unfolding fixed_of
  other_fixed_field_kept {A} {get} g =
      ap (λ (m : ℕ). get (cond (eqb m message) (Some at') None) (fixing_of message at bytes r).fixed) (fixing_keeps_the_rest message at bytes r).same_message
      ∙ got_alike g (eqb r.message message) (fixing_of message at bytes r).fixed r.fixed other_fixed_kept
