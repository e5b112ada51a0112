-- The bytes that the late rules ask for, where they stand in a message.
--     sent-byte       a byte of a selected field in the layout is the one of the optional bytes that stands as far from the summed widths of all earlier set bits
--     type-stands, instruction-stands, unit-stands: OrdType of a Modify Order without Price, MassCancelInst and MatchingUnit of a Purge Orders
--     modify-found, purge-found: what is judged by these bytes is the late refusal of the layout
-- Assumes nothing.
use mathlib.Core.Path.{◌≡◌, refl, sym, ap, ap₂, ◌∙◌}
use mathlib.Core.Bool.{Bool, true, false, cond, ◌&&◌, ◌||◌, true≢false}
use mathlib.Core.List.{List}
use Prim.Native.Nat.{ℕ, zero, suc, ◌+◌, ◌-◌, ◌≤◌, ◌<◌, ◌/◌}
use native.Mathlib.Nat.{add-zero}
use native.Mathlib.Omega.{arith}
use lib.ListN.{length, get_or, take, drop}
use lib.Seq.{get_or-take, get_or-drop}
use borrow.Author.Tests.{ne_eqb}
use Rattle.kinds.specs.declared.Kind.{Kind}
use Rattle.dictionary.specs.declared.Entry.{Entry}
use Rattle.dictionary.specs.declared.Entry.TheVariants.{Field}
use Rattle.dictionary.specs.Dictionary.{entry_of}
use Rattle.block.specs.Slots.{zeros, takes, width, width_of, sum, spread, gathered}
use Rattle.block.specs.SlotLaws.{gathered-front, back, spread-length}
use Rattle.block.specs.Places.{selected_at, entry_at, slots_of, has_required}
use Rattle.block.specs.FieldPlaces.{widths_before}
use Rattle.block.proofs.FieldPlaceLaws.{takes_all, field_sent, field_stands}
use Rattle.block.specs.Sizes.{all_places, layout_size}
use Rattle.orders.specs.Late.{late_refusal}
use Rattle.orders.specs.LateBytes.{modify_late, purge_late, modify_late_is, purge_late_is, unit_unasked}
use Rattle.orders.specs.Orders.{layout_of}
use Rattle.order_reader.specs.Stages.{firm_width}
use Rattle.order_reader.proofs.Fronts.{layout_long}

module _ (message count : ℕ) (bits optional : List ℕ) (h : sum takes (slots_of message count bits) ≡ length optional) where
  -- what is gathered of the layout is what was spread
  gathered-again : gathered (slots_of message count bits) (layout_of message count bits optional) ≡ optional
  unfolding layout_of
  gathered-again =
      let ss = slots_of message count bits in
      gathered-front ss (spread ss optional) (zeros (layout_size - sum width ss)) (omega (arith, spread-length ss optional (omega (arith, h)))) ∙ back ss optional (sym h)

  -- SENT BYTE
  pub sent_byte : (k : ℕ) → k < all_places → selected_at count bits k ≡ true → {w p : ℕ} {kind : Kind} → Field w kind p ≡ entry_at message k → (i : ℕ) → i < w
      → (widths_before (selected_at count bits) (entry_at message) k + i < length optional)
      × (get_or optional (widths_before (selected_at count bits) (entry_at message) k + i) 0 ≡ get_or (layout_of message count bits optional) (p + i) 0)
  sent_byte k small chosen {w} {p} {kind} listed i low =
      let b : ℕ = widths_before (selected_at count bits) (entry_at message) k in
      let v : List ℕ = layout_of message count bits optional in
      let s = field_sent message count bits k small chosen listed in
      let l = layout_long message count bits optional h in
      let stands : take w (drop b (gathered (slots_of message count bits) v)) ≡ take w (drop p v) = field_stands message count bits k small chosen listed v (omega (arith, l)) in
      let there : take w (drop b optional) ≡ take w (drop p v) = ap (λ (o : List ℕ). take w (drop b o)) (sym gathered-again) ∙ stands in (
        omega (arith, s, h, low),
        sym (get_or-take w (drop b optional) i 0 low ∙ get_or-drop b optional i 0)
            ∙ ap (λ (o : List ℕ). get_or o i 0) there
            ∙ (get_or-take w (drop p v) i 0 low ∙ get_or-drop p v i 0),
      )

-- ClearingFirm alone may stand before MassCancelInst of a Purge Orders
before_instruction : (a b : Bool) → 0 + cond a 4 0 + cond b 0 0 ≡ cond a 4 0
before_instruction true true = refl
before_instruction true false = refl
before_instruction false true = refl
before_instruction false false = refl

-- and with it OrderQty before OrdType of a Modify Order without Price
before_type : (a b : Bool) → 0 + cond a 4 0 + cond b 0 0 + cond true 4 0 + cond false 8 0 ≡ cond a 4 0 + 4
before_type true true = refl
before_type true false = refl
before_type false true = refl
before_type false false = refl

-- fields of no width add none
no_more : (set : ℕ → Bool) (entry : ℕ → Entry) (k n : ℕ) → ((i : ℕ) → k ≤ i → width_of (entry i) ≡ 0) → widths_before set entry (k + n) ≡ widths_before set entry k
unfolding widths_before
no_more set entry k zero none = ap (widths_before set entry) (add-zero k)
no_more set entry k (suc n) none =
    let e : k + suc n ≡ suc (k + n) = omega arith in
    ap (widths_before set entry) e
    ∙ ap (λ (w : ℕ). widths_before set entry (k + n) + cond (set (k + n)) w 0) (none (k + n) (omega arith))
    ∙ by (set (k + n))
    ∙ no_more set entry k n none
  where
    by : (b : Bool) → widths_before set entry (k + n) + cond b 0 0 ≡ widths_before set entry (k + n)
    by true = add-zero _
    by false = add-zero _

-- Purge Orders has two bitfields
two_bytes : (k : ℕ) → 16 ≤ k → width_of (entry_at 0x47 k) ≡ 0
unfolding entry_at entry_of
two_bytes k h =
    let d : 2 ≤ k / 8 = omega arith in
    rw (ne_eqb (k / 8 + 1) 1 (λ e. omega (arith, d, e)), ne_eqb (k / 8 + 1) 2 (λ e. omega (arith, d, e)))

module _ (count : ℕ) (bits optional : List ℕ) where
  module _ (h : sum takes (slots_of 0x47 count bits) ≡ length optional) where
    -- MASSCANCELINST STANDS after ClearingFirm
    pub instruction_stands : has_required 0x47 count bits ≡ true → (i : ℕ) → i < 16
        → (firm_width count bits + i < length optional) × (get_or optional (firm_width count bits + i) 0 ≡ get_or (layout_of 0x47 count bits optional) (4 + i) 0)
    unfolding has_required widths_before entry_at entry_of
    instruction_stands has i low =
        let w : widths_before (selected_at count bits) (entry_at 0x47) 2 ≡ firm_width count bits = before_instruction (selected_at count bits 0) (selected_at count bits 1) in
        let s = sent_byte 0x47 count bits optional h 2 (omega arith) has refl i low in
        (omega (arith, w, s.0), ap (λ (n : ℕ). get_or optional (n + i) 0) (sym w) ∙ s.1)

    -- MATCHINGUNIT STANDS last
    pub unit_stands : selected_at count bits 15 ≡ true → (1 ≤ length optional) × (get_or optional (length optional - 1) 0 ≡ get_or (layout_of 0x47 count bits optional) 56 0)
    unfolding widths_before entry_at entry_of
    unit_stands on =
        let b : ℕ = widths_before (selected_at count bits) (entry_at 0x47) 15 in
        let s = sent_byte 0x47 count bits optional h 15 (omega arith) on refl 0 (omega arith) in
        let all : sum takes (slots_of 0x47 count bits) ≡ widths_before (selected_at count bits) (entry_at 0x47) 16 =
        takes_all (selected_at count bits) (entry_at 0x47) all_places ∙ no_more (selected_at count bits) (entry_at 0x47) 16 (all_places - 16) two_bytes in
        let last : widths_before (selected_at count bits) (entry_at 0x47) 16 ≡ b + 1 = ap (λ (x : Bool). b + cond x 1 0) on in
        let at : length optional - 1 ≡ b + 0 = omega (arith, h, all, last) in
        (omega (arith, h, all, last), ap (λ (n : ℕ). get_or optional n 0) at ∙ s.1)

  module _ (h : sum takes (slots_of 0x3A count bits) ≡ length optional) where
    -- ORDTYPE STANDS after ClearingFirm and OrderQty where Price is not selected
    pub type_stands : has_required 0x3A count bits ≡ true → selected_at count bits 3 ≡ false
        → (firm_width count bits + 4 < length optional) × (get_or optional (firm_width count bits + 4) 0 ≡ get_or (layout_of 0x3A count bits optional) 16 0)
    unfolding has_required widths_before entry_at entry_of
    type_stands has off = by (selected_at count bits 2) refl (selected_at count bits 4) refl (sym (rw off) ∙ has)
      where
        by : (q : Bool) → selected_at count bits 2 ≡ q → (t : Bool) → selected_at count bits 4 ≡ t → (selected_at count bits 2 && (false || selected_at count bits 4)) ≡ true
            → (firm_width count bits + 4 < length optional) × (get_or optional (firm_width count bits + 4) 0 ≡ get_or (layout_of 0x3A count bits optional) 16 0)
        by true eq true et e =
            let w : widths_before (selected_at count bits) (entry_at 0x3A) 4 ≡ firm_width count bits + 4 = rw (eq, off) (before_type (selected_at count bits 0) (selected_at count bits 1)) in
            let s = sent_byte 0x3A count bits optional h 4 (omega arith) et refl 0 (omega arith) in
            (omega (arith, w, s.0), ap (λ (n : ℕ). get_or optional n 0) (sym (omega (arith, w))) ∙ s.1)
        by true eq false et e = absurd (true≢false (sym e ∙ rw (eq, et)))
        by false eq t et e = absurd (true≢false (sym e ∙ rw eq))

    -- a selected Price asks for nothing more
    pub modify_priced : selected_at count bits 3 ≡ true → 0 ≡ late_refusal 0x3A count bits (layout_of 0x3A count bits optional)
    unfolding modify_late
    modify_priced on = sym (modify_late_is count bits (layout_of 0x3A count bits optional) ∙ rw on)

    pub modify-found : has_required 0x3A count bits ≡ true → selected_at count bits 3 ≡ false → {at r : ℕ} → at ≡ firm_width count bits + 4 → r ≡ modify_late count bits (get_or optional at 0)
        → r ≡ late_refusal 0x3A count bits (layout_of 0x3A count bits optional)
    modify-found has off {at} ea e =
        e
        ∙ ap (modify_late count bits) (ap (λ (n : ℕ). get_or optional n 0) ea ∙ (type_stands has off).1)
        ∙ sym (modify_late_is count bits (layout_of 0x3A count bits optional))

  module _ (h : sum takes (slots_of 0x47 count bits) ≡ length optional) (has : has_required 0x47 count bits ≡ true) where
    pub purge-found : {at u r : ℕ} → at ≡ firm_width count bits → (selected_at count bits 15 ≡ true → u ≡ get_or (layout_of 0x47 count bits optional) 56 0)
        → r ≡ purge_late count bits (get_or optional at 0) (get_or optional (at + 1) 0) (get_or optional (at + 2) 0) u
        → r ≡ late_refusal 0x47 count bits (layout_of 0x47 count bits optional)
    purge-found {at} {u} {r} ea eu e =
        let v : List ℕ = layout_of 0x47 count bits optional in
        let z : get_or optional at 0 ≡ get_or v 4 0 = ap (λ (n : ℕ). get_or optional n 0) (omega (arith, ea)) ∙ (instruction_stands h has 0 (omega arith)).1 in
        let o : get_or optional (at + 1) 0 ≡ get_or v 5 0 = ap (λ (n : ℕ). get_or optional (n + 1) 0) ea ∙ (instruction_stands h has 1 (omega arith)).1 in
        let t : get_or optional (at + 2) 0 ≡ get_or v 6 0 = ap (λ (n : ℕ). get_or optional (n + 2) 0) ea ∙ (instruction_stands h has 2 (omega arith)).1 in
        e
        ∙ ap₂ (λ (x y : ℕ). purge_late count bits x y (get_or optional (at + 2) 0) u) z o
        ∙ ap (λ (x : ℕ). purge_late count bits (get_or v 4 0) (get_or v 5 0) x u) t
        ∙ unit_unasked count bits (get_or v 4 0) (get_or v 5 0) (get_or v 6 0) eu
        ∙ sym (purge_late_is count bits v)

-- ClearingFirm is no wider
pub firm_small : (count : ℕ) (bits : List ℕ) → firm_width count bits ≤ 4
firm_small count bits = by (selected_at count bits 0)
  where
    by : (b : Bool) → cond b 4 0 ≤ 4
    by true = omega arith
    by false = omega arith
