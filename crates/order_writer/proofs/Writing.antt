-- The stages of the writer make up its refusal: first the top, then what was seen of the selected fields, of the fixed part and of the middle, then
-- the room; and the buffer follows. Assumes nothing.
use mathlib.Core.Path.{◌≡◌, refl, sym, ap, ap₂, ◌∙◌}
use mathlib.Core.Bool.{Bool, true, false, cond, not, ◌&&◌, ◌||◌}
use mathlib.Core.List.{List, [], ◌++◌}
use Prim.Native.Nat.{ℕ, suc, ◌+◌, ◌-◌, ◌≤◌}
use native.Mathlib.Nat.{zero-add}
use native.Mathlib.Omega.{arith}
use lib.Dec.{ltb, eqb}
use lib.ListN.{length, drop}
use borrow.Author.Tests.{ltb-false, eq-eqb, ne_eqb, eqb-true, eqb-false, not-false}
use Rattle.refusals.specs.Names.{unknown_type, bad_unit, too_many_bitfields, unlisted_bit, not_selected, bad_value, not_zero, no_room}
use Rattle.refusals.specs.Told.{told}
use Rattle.refusals.specs.ToldLaws.{passed_told}
use Rattle.numbers.specs.Numbers.{patched}
use Rattle.kinds.specs.Kinds.{all_nul}
use Rattle.wire.specs.Header.{header_bytes}
use Rattle.wire.proofs.FrameLaws.{passed}
use Rattle.block.specs.Slots.{takes, width, sum, any_bad, bad_byte, agree_held, wrong_held}
use Rattle.block.proofs.FirstBad.{bad_found, held_found, bad_within, held-within}
use Rattle.block.specs.Places.{selected_at, entry_at, slots_of, has_required}
use Rattle.block.specs.Walk.{Looking}
use Rattle.block.specs.SlotLaws.{takes-below}
use Rattle.block.proofs.Dictionaries.{before-none, dictionary_placed, widths_fit}
use Rattle.block.proofs.Looks.{Looked, looked, cleared, zero_by_clearing}
use Rattle.block_write.specs.declared.Seen.{Seen}
use Rattle.block_write.specs.State.{looking, unseen, look_walk}
use Rattle.orders.specs.Shapes.{of_member, of_venue, count_at, most_of, unit_good, fixed_good}
use Rattle.orders.specs.Markets.{wire_type, typed, on_wire}
use Rattle.orders.specs.Middle.{middle_size, middle_good}
use Rattle.orders.specs.Late.{late_refusal}
use Rattle.orders.specs.Orders.{write_slots, write_rest, write_middle, zero_unused, size_of, order_bytes, write_refusal, write_buffer}
use Rattle.orders.specs.FixedFields.{fixed_wrong}
use Rattle.orders.proofs.FixedFieldLaws.{fixed-found}
use Rattle.orders.proofs.OrderLaws.{most_bound}
use Rattle.orders.specs.declared.Record.{Record}
use Rattle.order_writer.specs.Stages.{top_refusal, value_refusal, unused_zero, end_refusal, seen_refusal, after_bytes, field_bytes, rest_bytes}
use Rattle.block.specs.Sizes.{all_places, layout_size, most_bitfields}

-- ---- the stages in a row

abbrev then_next : ℕ → ℕ → ℕ
then_next top rest = cond (eqb top 0) rest top

then-stop : (top rest : ℕ) → (top ≡ 0 → ⊥) → then_next top rest ≡ top
then-stop top rest n = rw (ne_eqb top 0 n)

then_go : (top rest : ℕ) → top ≡ 0 → then_next top rest ≡ rest
then_go top rest z = rw (eq-eqb top 0 z)

-- one refusal more before a chain
one_more : (a : Bool) (n x top rest : ℕ) → (n ≡ 0 → ⊥) → x ≡ then_next top rest → cond a n x ≡ then_next (cond a n top) rest
one_more true n x top rest h e = sym (then-stop n rest h)
one_more false n x top rest h e = e

-- the last of them
one_last : (a : Bool) (n rest : ℕ) → (n ≡ 0 → ⊥) → cond a n rest ≡ then_next (cond a n 0) rest
one_last a n rest h = one_more a n rest 0 rest h (sym (then_go 0 rest refl))

-- one that is a stage's own answer, which refuses unless it is 0
late-more : (b : Bool) (n x top rest : ℕ) → eqb n 0 ≡ b → x ≡ then_next top rest → cond (not b) n x ≡ then_next (cond (not b) n top) rest
late-more true n x top rest z e = e
late-more false n x top rest z e = sym (then-stop n rest (eqb-false n 0 z))

-- where nothing is refused, the first stage refuses nothing
then-none : (top rest : ℕ) → then_next top rest ≡ 0 → top ≡ 0
then-none top rest z = by (eqb top 0) refl z
  where
    by : (b : Bool) → eqb top 0 ≡ b → cond b rest top ≡ 0 → top ≡ 0
    by true e z = eqb-true top 0 e
    by false e z = z

-- no refusal is 0, with a place or without
some : (n place : ℕ) → told (suc n) place ≡ 0 → ⊥
some n place z = omega (arith, z)

top_chain : (a b c : Bool) (place rest : ℕ)
    → cond a unknown_type (cond b bad_unit (cond c (told too_many_bitfields place) rest)) ≡ then_next (cond a unknown_type (cond b bad_unit (cond c (told too_many_bitfields place) 0))) rest
top_chain a b c place rest =
    one_more a unknown_type _ _ rest (λ z. omega (arith, z))
    (one_more b bad_unit _ _ rest (λ z. omega (arith, z)) (one_last c (told too_many_bitfields place) rest (some _ place)))

-- the bitfields of a record that passes the top are no more than a record has
pub count_fits : (message unit number count : ℕ) → top_refusal message unit number count ≡ 0 → count ≤ most_bitfields
unfolding top_refusal
count_fits message unit number count z =
    let p4 = passed (not (of_member message || of_venue message)) _ _ z in
    let p5 = passed (not (unit_good message unit number)) _ _ p4.1 in
    let p7 = passed_told (ltb (most_of message) count) _ _ _ p5.1 in
    omega (arith, ltb-false (most_of message) count p7.0, most_bound message)

-- 10 by what was found of the fixed part and the fields, and what comes after it
abbrev values : Record → Bool → Bool → ℕ → ℕ → ℕ
values r good agree field rest =
    cond (not good) (told bad_value (fixed_wrong r.message r.fixed))
    (cond (not (middle_good r.message r.count r.bits (write_rest r))) (told bad_value (count_at r.message + r.count + 1))
    (cond (not agree) (told bad_value (count_at r.message + r.count + write_middle r + field))
    rest))

-- the late ones, 12, and what comes after them
abbrev ends : Record → Bool → ℕ → ℕ
ends r zero rest =
    cond (not (eqb (late_refusal r.message r.count r.bits r.slots) 0)) (late_refusal r.message r.count r.bits r.slots)
    (cond (not zero) not_zero
    rest)

-- 8, 9, these, and what comes after them, by what was found of the bits too
abbrev block : Record → Bool → ℕ → Bool → Bool → ℕ → Bool → ℕ → ℕ
block r bad byte good agree field zero rest =
    cond bad (told unlisted_bit (count_at r.message + byte))
    (cond (not (has_required r.message r.count r.bits)) (told not_selected (count_at r.message + r.count))
    (values r good agree field (ends r zero rest)))

values-more : (r : Record) (good agree : Bool) (field x top rest : ℕ) → x ≡ then_next top rest → values r good agree field x ≡ then_next (values r good agree field top) rest
values-more r good agree field x top rest e =
    one_more (not good) _ _ _ rest (some _ _)
    (one_more (not (middle_good r.message r.count r.bits (write_rest r))) _ _ _ rest (some _ _)
    (one_more (not agree) _ _ _ rest (some _ _) e))

ends_chain : (r : Record) (zero : Bool) (rest : ℕ) → ends r zero rest ≡ then_next (ends r zero 0) rest
ends_chain r zero rest =
    let late = late_refusal r.message r.count r.bits r.slots in
    late-more (eqb late 0) late _ _ rest refl (one_last (not zero) not_zero rest (λ z. omega (arith, z)))

block_chain : (r : Record) (bad : Bool) (byte : ℕ) (good agree : Bool) (field : ℕ) (zero : Bool) (rest : ℕ)
    → block r bad byte good agree field zero rest ≡ then_next (block r bad byte good agree field zero 0) rest
block_chain r bad byte good agree field zero rest =
    one_more bad _ _ _ rest (some _ _)
    (one_more (not (has_required r.message r.count r.bits)) _ _ _ rest (some _ _) (values-more r good agree field _ _ rest (ends_chain r zero rest)))

-- ---- the middle

-- where no value is refused, the middle is good
pub middle_good_lem : (message count : ℕ) (fixed bits held : List ℕ) (wrong : ℕ) → value_refusal message count fixed bits held wrong ≡ 0 → middle_good message count bits held ≡ true
unfolding value_refusal
middle_good_lem message count fixed bits held wrong z =
    let pf = passed_told (not (eqb (fixed_wrong message fixed) 0)) _ _ _ z in
    not-false _ (passed_told (not (middle_good message count bits held)) _ _ _ pf.1).0

-- so it is where nothing is refused of what was seen
pub seen-middle : (message count : ℕ) (fixed bits slots rest : List ℕ) (s : Seen) → seen_refusal message count fixed bits slots rest s ≡ 0
    → middle_good message count bits (drop (count_at message - 10) fixed) ≡ true
unfolding seen_refusal
seen-middle message count fixed bits slots rest s z =
    let held = drop (count_at message - 10) fixed in
    let p8 = passed_told (not (eqb s.bad 0)) _ _ _ z in
    let p9 = passed_told (not (has_required message count bits)) _ _ _ p8.1 in
    middle_good_lem message count fixed bits held s.wrong (then-none (value_refusal message count fixed bits held s.wrong) _ p9.1)

module _ (r : Record) (s : Seen) (rest : List ℕ) (lv : length r.slots ≡ layout_size)
    (look : looking s rest ≡ look_walk r.message r.count r.bits all_places 0 (unseen r.slots)) where
  seen : Looked (entry_at r.message) (slots_of r.message r.count r.bits) 0 (unseen r.slots) (look_walk r.message r.count r.bits all_places 0 (unseen r.slots))
  seen = looked (entry_at r.message) layout_size (dictionary_placed r.message) (selected_at r.count r.bits) all_places 0 (unseen r.slots) (omega arith)

  fit : sum width (slots_of r.message r.count r.bits) ≤ length r.slots
  fit = omega (arith, lv, widths_fit r.message r.count r.bits)

  pub bad_is : s.bad ≡ bad_byte 0 (slots_of r.message r.count r.bits)
  bad_is = ap (λ (x : Looking). x.bad) look ∙ seen.bad_is

  pub total_is : s.total ≡ sum takes (slots_of r.message r.count r.bits)
  total_is = ap (λ (x : Looking). x.total) look ∙ seen.total_is ∙ zero-add (sum takes (slots_of r.message r.count r.bits))

  pub wrong_is : s.wrong ≡ wrong_held 0 (slots_of r.message r.count r.bits) r.slots
  wrong_is = ap (λ (x : Looking). x.wrong) look ∙ seen.wrong_is [] r.slots refl (sym (before-none (entry_at r.message))) fit

  -- what was found is near
  pub bad_near : s.bad ≤ 100
  bad_near = omega (arith, bad_is, bad_within (selected_at r.count r.bits) (entry_at r.message) all_places 0)

  pub wrong_near : s.wrong ≤ 1000
  wrong_near =
      let ss = slots_of r.message r.count r.bits in
      omega (arith, wrong_is, held-within 0 ss r.slots, takes-below ss, widths_fit r.message r.count r.bits)

  rest_is : rest ≡ cleared (slots_of r.message r.count r.bits) r.slots
  rest_is = ap (λ (x : Looking). x.rest) look ∙ seen.rest_is [] r.slots refl (sym (before-none (entry_at r.message))) fit

  zero_is : unused_zero r.message r.count r.fixed r.bits rest ≡ zero_unused r
  unfolding unused_zero zero_unused write_slots write_rest
  zero_is =
      ap (λ (x : Bool). all_nul (drop (write_middle r) (write_rest r)) && (all_nul (drop r.count r.bits) && x))
      (ap all_nul rest_is ∙ zero_by_clearing (slots_of r.message r.count r.bits) r.slots)

  -- what was seen is refused as the record says
  seen_is : seen_refusal r.message r.count r.fixed r.bits r.slots rest s
      ≡ block r (any_bad (slots_of r.message r.count r.bits)) (bad_byte 0 (slots_of r.message r.count r.bits)) (fixed_good r.message r.fixed)
      (agree_held (slots_of r.message r.count r.bits) r.slots) (wrong_held 0 (slots_of r.message r.count r.bits) r.slots) (zero_unused r) 0
  unfolding seen_refusal value_refusal end_refusal write_rest
  seen_is =
      let ss = slots_of r.message r.count r.bits in
      let good = eqb (fixed_wrong r.message r.fixed) 0 in
      let zero = unused_zero r.message r.count r.fixed r.bits rest in
      ap (λ (x : ℕ). cond (not (eqb s.bad 0)) (told unlisted_bit (count_at r.message + s.bad)) (cond (not (has_required r.message r.count r.bits)) (told not_selected (count_at r.message + r.count)) x))
      (sym (values-more r good (eqb s.wrong 0) s.wrong (ends r zero 0) 0 (ends r zero 0) (sym (then_go 0 (ends r zero 0) refl))))
      ∙ ap₂ (λ (b w : ℕ). block r (not (eqb b 0)) b good (eqb w 0) w zero 0) bad_is wrong_is
      ∙ ap₂ (λ (b a : Bool). block r b (bad_byte 0 ss) good a (wrong_held 0 ss r.slots) zero 0) (bad_found 0 ss) (held_found 0 ss r.slots)
      ∙ ap₂ (λ (g z : Bool). block r (any_bad ss) (bad_byte 0 ss) g (agree_held ss r.slots) (wrong_held 0 ss r.slots) z 0) (fixed-found r.message r.fixed) zero_is

  -- the whole of the refusal
  in_stages : (room : ℕ)
      → write_refusal r room
      ≡ then_next (top_refusal r.message r.unit r.number r.count)
      (then_next (seen_refusal r.message r.count r.fixed r.bits r.slots rest s) (cond (ltb room (size_of r)) no_room 0))
  unfolding write_refusal top_refusal write_slots
  in_stages room =
      let ss = slots_of r.message r.count r.bits in
      let last = cond (ltb room (size_of r)) no_room 0 in
      let top = top_refusal r.message r.unit r.number r.count in
      top_chain (not (of_member r.message || of_venue r.message)) (not (unit_good r.message r.unit r.number)) (ltb (most_of r.message) r.count) _ _
      ∙ ap (then_next top)
      (block_chain r (any_bad ss) (bad_byte 0 ss) (fixed_good r.message r.fixed) (agree_held ss r.slots) (wrong_held 0 ss r.slots) (zero_unused r) last
      ∙ ap (λ (x : ℕ). then_next x last) (sym seen_is))

  module _ (room : ℕ) (top : top_refusal r.message r.unit r.number r.count ≡ 0) where
    pub seen_stops : (seen_refusal r.message r.count r.fixed r.bits r.slots rest s ≡ 0 → ⊥)
        → seen_refusal r.message r.count r.fixed r.bits r.slots rest s ≡ write_refusal r room
    seen_stops n = sym (in_stages room ∙ then_go _ _ top ∙ then-stop _ _ n)

    pub room_decides : seen_refusal r.message r.count r.fixed r.bits r.slots rest s ≡ 0 → write_refusal r room ≡ cond (ltb room (size_of r)) no_room 0
    room_decides z = in_stages room ∙ then_go _ _ top ∙ then_go _ _ z

  -- the size, as the code sums it
  pub size_is : {n : ℕ} → n ≡ count_at r.message + 1 + r.count + (middle_size r.message r.count r.bits (drop (count_at r.message - 10) r.fixed) + s.total) → n ≡ size_of r
  unfolding size_of write_slots write_rest
  size_is e = e ∙ ap (λ (x : ℕ). count_at r.message + 1 + r.count + (write_middle r + x)) total_is

  pub total_small : s.total ≤ layout_size
  total_small = omega (arith, total_is, takes-below (slots_of r.message r.count r.bits), widths_fit r.message r.count r.bits)

-- ---- the buffer

pub buffer_kept : (r : Record) (out : List ℕ) {n : ℕ} → n ≡ write_refusal r (length out) → (n ≡ 0 → ⊥) → out ≡ write_buffer r out
unfolding write_buffer
buffer_kept r out e n = rw (ne_eqb (write_refusal r (length out)) 0 (λ z. n (e ∙ z)))

pub buffer_written : (r : Record) (out : List ℕ) {out' : List ℕ} → write_refusal r (length out) ≡ 0 → out' ≡ patched out 0 (on_wire (order_bytes r)) → out' ≡ write_buffer r out
unfolding write_buffer
buffer_written r out z e = rw (eq-eqb (write_refusal r (length out)) 0 z) e

pub bytes_are : (r : Record) {n : ℕ} → n ≡ size_of r
    → header_bytes (n - 2) (wire_type r.message) r.unit r.number ++ rest_bytes r.message r.count r.fixed r.bits r.slots ≡ on_wire (order_bytes r)
unfolding typed order_bytes rest_bytes field_bytes after_bytes write_slots write_rest
bytes_are r e = ap (λ (x : ℕ). header_bytes (x - 2) (wire_type r.message) r.unit r.number ++ rest_bytes r.message r.count r.fixed r.bits r.slots) e

-- ---- the top

pub top_stops : (r : Record) (room : ℕ) → (top_refusal r.message r.unit r.number r.count ≡ 0 → ⊥) → top_refusal r.message r.unit r.number r.count ≡ write_refusal r room
unfolding write_refusal top_refusal
top_stops r room n =
    sym (top_chain (not (of_member r.message || of_venue r.message)) (not (unit_good r.message r.unit r.number)) (ltb (most_of r.message) r.count) _ _ ∙ then-stop _ _ n)
