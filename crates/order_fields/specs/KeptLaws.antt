-- Setting a field leaves what every other field answers as it was. Assumes nothing.
use Rattle.std.specs.Prelude.{◌≡◌, ◌⊎◌, true, false, cond, Option, None, Some, List, ℕ, ◌+◌, ◌-◌, ◌*◌, ◌≤◌, ◌<◌, ltb, eqb, length, get_or, drop}
use Rattle.std.proofs.Math.Path.{refl, sym, ap}
use Rattle.std.proofs.Common.{ap₂, ◌∙◌, inl, inr, arith, ltb-true, ltb-false}
use Rattle.std.proofs.Math.Bool.{Bool}
use Rattle.std.proofs.Math.ListN.{take}
use Rattle.kinds.specs.declared.Kind.{Kind}
use Rattle.dictionary.specs.declared.Entry.TheVariants.{Field}
use Rattle.dictionary.specs.Dictionary.{entry_of}
use Rattle.block.specs.Sizes.{most_bitfields}
use Rattle.orders.specs.declared.Record.{Record}
use Rattle.order_fields.specs.Named.{place_in, selected_of, optional_of, fixed_of, number_of, price_of, text_of, selecting, storing, settable_of, set_in, setting_of, fixing_of}
use Rattle.order_fields.specs.NamedLaws.{placed, Listed}
use Rattle.order_fields.specs.OtherLaws.{other_slot_kept}
use Rattle.order_fields.specs.LocalLaws.{Local, got_alike, number_local, price_local, text_local}
use Rattle.order_fields.specs.FixedLaws.{SameElsewhere, fixing_keeps_the_rest}
use Rattle.order_fields.specs.SelectionLaws.{UnusedZero, other_selection_kept}

-- ---- an optional field is set: the other optional fields

-- another listed bit of the message
pub record Other (message byte bit byte' bit' w' p' : ℕ) (k' : Kind) : Type 0 where
  pub listed : Field w' k' p' ≡ entry_of message byte' bit'
  pub from_one : 1 ≤ byte'
  pub in_block : byte' ≤ most_bitfields
  pub low_bit : bit' < 8
  pub elsewhere : byte ≡ byte' → bit ≡ bit' → ⊥

-- of two places one comes first
pub one-first : (a b : ℕ) → (a ≡ b → ⊥) → (a < b) ⊎ (b < a)
one-first a b n = by (ltb a b) refl
  where
    by : (t : Bool) → ltb a b ≡ t → (a < b) ⊎ (b < a)
    by true e = inl (ltb-true a b e)
    by false e = inr (omega (arith, ltb-false a b e, n))

in_order : (byte bit byte' bit' : ℕ) → 1 ≤ byte → bit < 8 → 1 ≤ byte' → bit' < 8 → (byte ≡ byte' → bit ≡ bit' → ⊥)
    → (8 * (byte - 1) + bit < 8 * (byte' - 1) + bit') ⊎ (8 * (byte' - 1) + bit' < 8 * (byte - 1) + bit)
in_order byte bit byte' bit' a b c d other =
    one-first (8 * (byte - 1) + bit) (8 * (byte' - 1) + bit') (λ e. other (omega (arith, a, b, c, d, e)) (omega (arith, a, b, c, d, e)))

module _ {message byte bit w p : ℕ} {k : Kind} {r : Record} (i : Listed message byte bit w p k r) (small : byte ≤ most_bitfields) (unused : UnusedZero r) (bytes : List ℕ) (l : length bytes ≡ w) where
  module _ {byte' bit' w' p' : ℕ} {k' : Kind} (o : Other message byte bit byte' bit' w' p' k') where
    -- it is selected as before, and stands where it stood
    pub other_found_kept : (width : ℕ) → optional_of message byte' bit' width (setting_of message byte bit bytes r) ≡ optional_of message byte' bit' width r
    unfolding optional_of
    other_found_kept width =
        ap (λ (b : Bool). cond b (place_in width (entry_of message byte' bit')) None) (other_selection_kept i unused byte' bit' o.from_one o.elsewhere bytes l)

    -- and every getter answers the same
    pub other_answer_kept : {A : Type 0} {get : Option ℕ → List ℕ → A} → Local get w' p'
        → get (optional_of message byte' bit' w' (setting_of message byte bit bytes r)) (setting_of message byte bit bytes r).slots
        ≡ get (optional_of message byte' bit' w' r) r.slots
    unfolding optional_of
    other_answer_kept {A} {get} g =
        let s = (setting_of message byte bit bytes r).slots in
        let b : Bool = selected_of message byte' bit' r in
        let e : place_in w' (entry_of message byte' bit') ≡ Some p' = sym (placed refl o.listed) in
        let h : take w' (drop p' s) ≡ take w' (drop p' r.slots) =
        other_slot_kept i small byte' bit' o.listed o.from_one o.in_block o.low_bit (in_order byte bit byte' bit' i.from_one i.low_bit o.from_one o.low_bit o.elsewhere) bytes l in
        ap (λ (f : Option ℕ). get f s) (other_found_kept w')
        ∙ ap (λ (f : Option ℕ). get (cond b f None) s) e
        ∙ got_alike g b s r.slots h
        ∙ ap (λ (f : Option ℕ). get (cond b f None) r.slots) (sym e)

    -- of each kind
    pub other_number_kept : number_of w' message byte' bit' (setting_of message byte bit bytes r) ≡ number_of w' message byte' bit' r
    other_number_kept = other_answer_kept (number_local w' p')

    pub other_field_kept : text_of w' message byte' bit' (setting_of message byte bit bytes r) ≡ text_of w' message byte' bit' r
    other_field_kept = other_answer_kept (text_local w' p')

  pub other_price_kept : {byte' bit' p' : ℕ} {k' : Kind} → Other message byte bit byte' bit' 8 p' k'
      → price_of message byte' bit' (setting_of message byte bit bytes r) ≡ price_of message byte' bit' r
  other_price_kept {byte'} {bit'} {p'} o = other_answer_kept o (price_local p')

-- ---- an optional field is set: the rest of the record, of any type

pub record SameOutside (o r : Record) : Type 0 where
  pub same_message : o.message ≡ r.message
  pub same-unit : o.unit ≡ r.unit
  pub same_number : o.number ≡ r.number
  pub same-fixed : o.fixed ≡ r.fixed

pub setting_keeps_the_rest : (message byte bit : ℕ) (bytes : List ℕ) (r : Record) → SameOutside (setting_of message byte bit bytes r) r
unfolding setting_of selecting storing
setting_keeps_the_rest message byte bit bytes r = by (settable_of message byte bit (length bytes) r)
  where
    by : (f : Option ℕ) → SameOutside (set_in f byte bit bytes r) r
    by (Some at) = record { same_message = refl; same-unit = refl; same_number = refl; same-fixed = refl }
    by None = record { same_message = refl; same-unit = refl; same_number = refl; same-fixed = refl }

-- so every getter of the fixed part answers the same
pub fixed_fields-kept : (message byte bit : ℕ) (bytes : List ℕ) (r : Record) (message' at : ℕ) {A : Type 0} (get : Option ℕ → List ℕ → A)
    → get (fixed_of message' at (setting_of message byte bit bytes r)) (setting_of message byte bit bytes r).fixed ≡ get (fixed_of message' at r) r.fixed
unfolding fixed_of
fixed_fields-kept message byte bit bytes r message' at get =
    let s = setting_keeps_the_rest message byte bit bytes r in
    ap₂ (λ (m : ℕ) (f : List ℕ). get (cond (eqb m message') (Some at) None) f) s.same_message s.same-fixed

-- ---- a field of the fixed part is set: every getter of an optional field answers the same

pub same_optional_fields : {o r : Record} → SameElsewhere o r → (message byte bit width : ℕ) {A : Type 0} (get : Option ℕ → List ℕ → A)
    → get (optional_of message byte bit width o) o.slots ≡ get (optional_of message byte bit width r) r.slots
unfolding optional_of selected_of
same_optional_fields s message byte bit width get = rw (s.same_message, s.same_count, s.same_bits, s.same_slots) refl

pub optional_fields_kept : (message at : ℕ) (bytes : List ℕ) (r : Record) (message' byte bit width : ℕ) {A : Type 0} (get : Option ℕ → List ℕ → A)
    → get (optional_of message' byte bit width (fixing_of message at bytes r)) (fixing_of message at bytes r).slots ≡ get (optional_of message' byte bit width r) r.slots
optional_fields_kept message at bytes r = same_optional_fields (fixing_keeps_the_rest message at bytes r)

-- and the places past the count stay zero
pub unused_still_zero : (message at : ℕ) (bytes : List ℕ) (r : Record) → UnusedZero r → UnusedZero (fixing_of message at bytes r)
unused_still_zero message at bytes r unused j h =
    let s = fixing_keeps_the_rest message at bytes r in
    ap (λ (b : List ℕ). get_or b j 0) s.same_bits ∙ unused j (omega (arith, h, s.same_count))
