-- Setting a field leaves the slots of the other fields of the same message as they were. Assumes nothing.
use Rattle.std.specs.Prelude.{◌≡◌, ◌⊎◌, List, ◌++◌, ℕ, suc, ◌+◌, ◌-◌, ◌*◌, ◌/◌, ◌%◌, ◌≤◌, ◌<◌, length, take, drop}
use Rattle.std.proofs.Common.{sym, ap, ap₂, ◌∙◌, ⊎_elim, append_assoc, arith, length-append, length-drop, take-append-drop, drop-drop, length-take-le}
use Rattle.std.proofs.Math.Seq.{drop-append-add}
use Rattle.std.proofs.lemmas.List.{drop-append-le, take-append-le}
use Rattle.kinds.specs.declared.Kind.{Kind}
use Rattle.numbers.specs.Numbers.{patched}
use Rattle.dictionary.specs.declared.Entry.TheVariants.{Field}
use Rattle.dictionary.specs.Dictionary.{entry_of}
use Rattle.block.specs.Slots.{width_of}
use Rattle.block.specs.Places.{entry_at}
use Rattle.block.proofs.Dictionaries.{before, before_grows, dictionary_placed, field_fits}
use Rattle.orders.specs.declared.Record.{Record}
use Rattle.order_fields.specs.Named.{setting_of}
use Rattle.order_fields.specs.NamedLaws.{Listed, set_slots}
use Rattle.block.specs.Sizes.{most_bitfields, all_places}

-- ---- bytes before and after those that are put

pub kept-after : (xs : List ℕ) (p : ℕ) (bs : List ℕ) (q : ℕ) → p + length bs ≤ length xs → p + length bs ≤ q → drop q (patched xs p bs) ≡ drop q xs
unfolding patched
kept-after xs p bs q h l =
    let n : length (take p xs) ≡ p = length-take-le p xs (omega arith) in
    let m : length (take p xs ++ bs) ≡ p + length bs = simp length-append (omega (arith, n)) in
    let d = drop (p + length bs) xs in
    let k = q - (p + length bs) in
    let e : length (take p xs ++ bs) + k ≡ q = omega (arith, m) in
    let f : p + length bs + k ≡ q = omega arith in
    ap (drop q) (sym (append_assoc (take p xs) bs d))
    ∙ ap (λ (j : ℕ). drop j ((take p xs ++ bs) ++ d)) (sym e)
    ∙ drop-append-add (take p xs ++ bs) d k
    ∙ drop-drop k (p + length bs) xs
    ∙ ap (λ (j : ℕ). drop j xs) f

pub kept-before : (xs : List ℕ) (p : ℕ) (bs : List ℕ) (q w : ℕ) → p ≤ length xs → q + w ≤ p → take w (drop q (patched xs p bs)) ≡ take w (drop q xs)
unfolding patched
kept-before xs p bs q w h l =
    front (bs ++ drop (p + length bs) xs) ∙ sym (front (drop p xs)) ∙ ap (λ (s : List ℕ). take w (drop q s)) (take-append-drop p xs)
  where
    n : length (take p xs) ≡ p
    n = length-take-le p xs h

    front : (t : List ℕ) → take w (drop q (take p xs ++ t)) ≡ take w (drop q (take p xs))
    front t =
        let a : q ≤ length (take p xs) = omega (arith, n, l) in
        let b : w ≤ length (drop q (take p xs)) = simp length-drop (omega (arith, n, l)) in
        ap (take w) (drop-append-le q (take p xs) t a) ∙ take-append-le w (drop q (take p xs)) t b

-- ---- the slots of two listed bits lie apart

pub at_place : (message byte bit : ℕ) → 1 ≤ byte → bit < 8 → entry_at message (8 * (byte - 1) + bit) ≡ entry_of message byte bit
unfolding entry_at
at_place message byte bit h l =
    let a : (8 * (byte - 1) + bit) / 8 + 1 ≡ byte = omega arith in
    let b : (8 * (byte - 1) + bit) % 8 ≡ bit = omega arith in
    ap₂ (entry_of message) a b

pub apart : (message i j : ℕ) {w p w' p' : ℕ} {k k' : Kind} → i < j → j < all_places → Field w k p ≡ entry_at message i → Field w' k' p' ≡ entry_at message j → p + w ≤ p'
unfolding before
apart message i j {w} {p} {w'} {p'} h l e f =
    let at = entry_at message in
    let a : p ≡ before at i = (dictionary_placed message).placed i (omega arith) e in
    let b : p' ≡ before at j = (dictionary_placed message).placed j l f in
    let v : width_of (at i) ≡ w = ap width_of (sym e) in
    let n : suc i + (j - suc i) ≡ j = omega arith in
    let g : before at i + width_of (at i) ≤ before at (suc i + (j - suc i)) = before_grows at (j - suc i) (suc i) in
    let g' : before at (suc i + (j - suc i)) ≡ before at j = ap (before at) n in
    omega (arith, a, b, v, g, g')

-- ---- setting a field leaves the slot of every other listed bit as it was

module _ {message byte bit w p : ℕ} {k : Kind} {r : Record} (i : Listed message byte bit w p k r) (small : byte ≤ most_bitfields) where
  pub other_slot_kept : (byte' bit' : ℕ) {w' p' : ℕ} {k' : Kind} → Field w' k' p' ≡ entry_of message byte' bit' → 1 ≤ byte' → byte' ≤ most_bitfields → bit' < 8
      → (8 * (byte - 1) + bit < 8 * (byte' - 1) + bit') ⊎ (8 * (byte' - 1) + bit' < 8 * (byte - 1) + bit)
      → (bytes : List ℕ) → length bytes ≡ w
      → take w' (drop p' (setting_of message byte bit bytes r).slots) ≡ take w' (drop p' r.slots)
  other_slot_kept byte' bit' {w'} {p'} {k'} h a b c e bytes l =
      let s : p + length bytes ≤ length r.slots = omega (arith, field_fits message byte bit i.listed, i.whole, l) in
      let u : Field w k p ≡ entry_at message (8 * (byte - 1) + bit) = i.listed ∙ sym (at_place message byte bit i.from_one i.low_bit) in
      let v : Field w' k' p' ≡ entry_at message (8 * (byte' - 1) + bit') = h ∙ sym (at_place message byte' bit' a c) in
      ap (λ (t : List ℕ). take w' (drop p' t)) (set_slots i bytes l)
      ∙ ⊎_elim
      (λ (x : 8 * (byte - 1) + bit < 8 * (byte' - 1) + bit').
      let y : p + w ≤ p' = apart message _ _ x (omega (arith, b, c)) u v in
      ap (take w') (kept-after r.slots p bytes p' s (omega (arith, y, l))))
      (λ (x : 8 * (byte' - 1) + bit' < 8 * (byte - 1) + bit).
      let y : p' + w' ≤ p = apart message _ _ x (omega (arith, small, i.low_bit)) v u in
      kept-before r.slots p bytes p' w' (omega (arith, s)) y)
      e
