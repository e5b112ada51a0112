-- THE WRITER TELLS PLACES AS THE READER WOULD: 7 to 10 of a record, the late 9 among them, are told as the reader tells them of the message that
-- would be written. Assumes nothing.
use Rattle.std.specs.Prelude.{◌≡◌, Bool, ◌&&◌, ◌||◌, take}
use Rattle.std.proofs.Math.Path.{refl, sym, ap, ap₂}
use Rattle.std.proofs.Common.{◌∙◌, arith, length-drop, length-take-le, take_at, drop_at, get_or-drop}
use Rattle.std.proofs.Math.Bool.{true, false, cond, not}
use mathlib.Core.List.{List, [], ◌∷◌, ◌++◌, append_assoc, append-nil}
use Prim.Native.Nat.{ℕ, zero, suc, ◌+◌, ◌-◌, ◌/◌, ◌%◌, ◌≤◌, ◌<◌}
use Rattle.std.proofs.Math.Dec.{eqb, ltb}
use Rattle.std.proofs.Math.ListN.{length, get_or, drop, length-append, get_or-append}
use Rattle.std.proofs.lemmas.List.{get_or_at}
use Rattle.std.proofs.Math.Seq.{get_or-take}
use borrow.Author.Tests.{lt-leb, le-ltb, ltb-true, ltb-false, eq-eqb, eqb-true, not-false}
use Rattle.refusals.specs.Names.{unknown_type, bad_unit, too_many_bitfields, unlisted_bit, not_selected, bad_value, not_zero, no_room, conflict}
use Rattle.refusals.specs.Told.{told, number_in}
use Rattle.refusals.specs.ToldLaws.{told_refuses, number_alone, passed_told}
use Rattle.kinds.specs.declared.Kind.{Kind}
use Rattle.kinds.specs.declared.Kind.TheVariants.{Alphanumeric, Binary, FilledText}
use Rattle.kinds.specs.Kinds.{agrees_of}
use Rattle.wire.specs.Header.{header_bytes, type_of, number_of, total_of}
use Rattle.wire.specs.HeaderLaws.{header_number}
use Rattle.dictionary.specs.Dictionary.{entry_of}
use Rattle.dictionary.specs.declared.Entry.{Entry}
use Rattle.dictionary.specs.declared.Entry.TheVariants.{Refused, Field}
use Rattle.block.specs.Slots.{zeros, Slot, slot, width_of, takes, width, sum, any_bad, bad_byte, spread, gathered, agree_slot, agree_sent, agree_held, wrong_sent, wrong_held}
use Rattle.block.specs.SlotLaws.{length-zeros, both_true, spread-length, gathered-length, gathered-front, back, agree_gathered}
use Rattle.block.specs.Places.{bit_set, selected_at, entry_at, slots_from, slots_of, has_required}
use Rattle.block.proofs.Dictionaries.{widths_fit}
use Rattle.block.specs.FieldPlaces.{widths_before}
use Rattle.block.proofs.FieldPlaceLaws.{field_stands}
use Rattle.block.specs.Sizes.{all_places, fixed_end, most_bitfields, layout_size}
use Rattle.orders.specs.Shapes.{of_member, of_venue, count_at, most_of, unit_good, fixed_good}
use Rattle.orders.specs.FixedFields.{fixed_wrong}
use Rattle.orders.specs.Middle.{middle_size, middle_good}
use Rattle.orders.specs.Late.{market, char_f, char_s, char_b, char_l, modify_order_lacks, purge_orders_lacks, purge_orders_conflicts, lacks, conflicts, late_refusal}
use Rattle.orders.proofs.OrderLaws.{count_bounds, most_bound, middle-kept, good_kept}
use Rattle.orders.specs.Orders.{count_of, bits_of, rest_of, middle_of, fixed_of, head_refusal, block_refusal, layout_of, body_refusal, read_refusal, write_slots, write_rest, write_middle, zero_unused, size_of, order_bytes, write_refusal}
use Rattle.orders.proofs.RoundTrip.{Sound, parts-length, parts-fixed, parts_bits, parts-rest}
use Rattle.orders.specs.declared.Record.{Record}
use Rattle.order_reader.proofs.InPlace.{good_front, wrong_front}

-- ---- a field is found where it would stand

taken_agrees : (e : Entry) (v t : List ℕ) → width_of e ≤ length v → agree_slot (slot true e) (take (width_of e) v ++ t) ≡ agree_slot (slot true e) v
taken_agrees Refused v t h = refl
taken_agrees (Field w k p) v t h = ap (agrees_of k) (take_at (take w v) t w (length-take-le w v h))

pub wrong_gathered : (at : ℕ) (ss : List Slot) (v t : List ℕ) → sum width ss ≤ length v → wrong_sent at ss (gathered ss v ++ t) ≡ wrong_held at ss v
wrong_gathered at [] v t h = refl
wrong_gathered at (slot true e ∷ ss) v t h =
    let w = width_of e in
    let l : length (take w v) ≡ w = length-take-le w v (omega arith) in
    let q : (take w v ++ gathered ss (drop w v)) ++ t ≡ take w v ++ (gathered ss (drop w v) ++ t) = append_assoc (take w v) (gathered ss (drop w v)) t in
    ap₂ (λ (a : Bool) (n : ℕ). cond a n (at + 1))
    (ap (agree_slot (slot true e)) q ∙ taken_agrees e v (gathered ss (drop w v) ++ t) (omega arith))
    (ap (λ (x : List ℕ). wrong_sent (at + w) ss (drop w x)) q ∙ ap (wrong_sent (at + w) ss) (drop_at (take w v) (gathered ss (drop w v) ++ t) w l) ∙ wrong_gathered (at + w) ss (drop w v) t (simp length-drop (omega arith)))
wrong_gathered at (slot false e ∷ ss) v t h = wrong_gathered (at + 0) ss (drop (width_of e) v) t (simp length-drop (omega arith))

-- ---- bitfields that are the same as far as they are counted

module _ (count : ℕ) (a b : List ℕ) (same : (j : ℕ) → j < count → get_or a j 0 ≡ get_or b j 0) where
  selected_same : (k : ℕ) → selected_at count a k ≡ selected_at count b k
  unfolding selected_at
  selected_same k = by (ltb (k / 8) count) refl
    where
      by : (t : Bool) → ltb (k / 8) count ≡ t → (t && bit_set (get_or a (k / 8) 0) (k % 8)) ≡ (t && bit_set (get_or b (k / 8) 0) (k % 8))
      by true e = ap (λ (x : ℕ). bit_set x (k % 8)) (same (k / 8) (ltb-true (k / 8) count e))
      by false e = refl

  from_same : (entry : ℕ → Entry) (n k : ℕ) → slots_from (selected_at count a) entry n k ≡ slots_from (selected_at count b) entry n k
  unfolding slots_from
  from_same entry zero k = refl
  from_same entry (suc n) k = ap₂ (λ (x : Bool) (ss : List Slot). slot x (entry k) ∷ ss) (selected_same k) (from_same entry n (suc k))

  slots_same : (message : ℕ) → slots_of message count a ≡ slots_of message count b
  slots_same message = from_same (entry_at message) all_places 0

  required_same : (message : ℕ) → has_required message count a ≡ has_required message count b
  unfolding has_required
  required_same message = rw (selected_same 8, selected_same 14, selected_same 2, selected_same 3, selected_same 4)

  middle-same : (message : ℕ) (rest : List ℕ) → middle_size message count a rest ≡ middle_size message count b rest
  unfolding middle_size
  middle-same message rest = refl

  middle_good-same : (message : ℕ) (rest : List ℕ) → middle_good message count a rest ≡ middle_good message count b rest
  unfolding middle_good
  middle_good-same message rest = refl

  late-same : (message : ℕ) (slots : List ℕ) → late_refusal message count a slots ≡ late_refusal message count b slots
  unfolding late_refusal lacks conflicts
  late-same message slots = rw (selected_same 3, selected_same 0, selected_same 4, selected_same 8, selected_same 15)

  layout_same : (message : ℕ) (optional : List ℕ) → layout_of message count a optional ≡ layout_of message count b optional
  unfolding layout_of
  layout_same message optional = ap (λ (ss : List Slot). spread ss optional ++ zeros (layout_size - sum width ss)) (slots_same message)

-- ---- what is written and read back holds the selected fields that it held

module _ (message count : ℕ) (bits v : List ℕ) (whole : length v ≡ layout_size) where
  -- the layout that reading makes of what is written
  abbrev again : List ℕ
  again = layout_of message count bits (gathered (slots_of message count bits) v)

  given_long : length (gathered (slots_of message count bits) v) ≡ sum takes (slots_of message count bits)
  given_long = gathered-length (slots_of message count bits) v (omega (arith, whole, widths_fit message count bits))

  spread_long : length (spread (slots_of message count bits) (gathered (slots_of message count bits) v)) ≡ sum width (slots_of message count bits)
  spread_long = spread-length (slots_of message count bits) (gathered (slots_of message count bits) v) (omega (arith, given_long))

  again_long : layout_size ≤ length again
  unfolding layout_of
  again_long =
      let ss = slots_of message count bits in
      let n : length (spread ss (gathered ss v) ++ zeros (layout_size - sum width ss)) ≡ length (spread ss (gathered ss v)) + length (zeros (layout_size - sum width ss)) = length-append (spread ss (gathered ss v)) (zeros (layout_size - sum width ss)) in
      omega (arith, n, spread_long, length-zeros (layout_size - sum width ss))

  gathered-again : gathered (slots_of message count bits) again ≡ gathered (slots_of message count bits) v
  unfolding layout_of
  gathered-again =
      let ss = slots_of message count bits in
      gathered-front ss (spread ss (gathered ss v)) (zeros (layout_size - sum width ss)) (omega (arith, spread_long))
      ∙ back ss (gathered ss v) given_long

  -- a selected field is the same in both
  field_kept : (k : ℕ) → k < all_places → selected_at count bits k ≡ true → {w p : ℕ} {kind : Kind} → Field w kind p ≡ entry_at message k → take w (drop p again) ≡ take w (drop p v)
  field_kept k small on {w} {p} {kind} listed =
      sym (field_stands message count bits k small on listed again again_long)
      ∙ ap (λ (o : List ℕ). take w (drop (widths_before (selected_at count bits) (entry_at message) k) o)) gathered-again
      ∙ field_stands message count bits k small on listed v (omega (arith, whole))

  -- and so is each of its bytes
  byte_kept : (k : ℕ) → k < all_places → selected_at count bits k ≡ true → {w p : ℕ} {kind : Kind} → Field w kind p ≡ entry_at message k → (i : ℕ) → i < w → get_or again (p + i) 0 ≡ get_or v (p + i) 0
  byte_kept k small on {w} {p} {kind} listed i l =
      sym (get_or-take w (drop p again) i 0 l ∙ get_or-drop p again i 0)
      ∙ ap (λ (b : List ℕ). get_or b i 0) (field_kept k small on listed)
      ∙ get_or-take w (drop p v) i 0 l
      ∙ get_or-drop p v i 0

  -- those that the late rules look at: OrdType of Modify Order, MassCancelInst and MatchingUnit of Purge Orders
  type_kept : message ≡ 0x3A → selected_at count bits 4 ≡ true → get_or again 16 0 ≡ get_or v 16 0
  unfolding entry_at entry_of
  type_kept e on = byte_kept 4 (omega arith) on {w = 1} {p = 16} {kind = Alphanumeric} (ap (λ (t : ℕ). entry_at t 4) (sym e)) 0 (omega arith)

  inst-kept : message ≡ 0x47 → selected_at count bits 2 ≡ true → (i : ℕ) → i < 16 → get_or again (4 + i) 0 ≡ get_or v (4 + i) 0
  unfolding entry_at entry_of
  inst-kept e on = byte_kept 2 (omega arith) on {w = 16} {p = 4} {kind = FilledText} (ap (λ (t : ℕ). entry_at t 2) (sym e))

  unit_kept : message ≡ 0x47 → selected_at count bits 15 ≡ true → get_or again 56 0 ≡ get_or v 56 0
  unfolding entry_at entry_of
  unit_kept e on = byte_kept 15 (omega arith) on {w = 1} {p = 56} {kind = Binary} (ap (λ (t : ℕ). entry_at t 15) (sym e)) 0 (omega arith)

  module _ (has : has_required message count bits ≡ true) where
    -- where Price is not selected OrdType is
    modify-kept : message ≡ 0x3A → modify_order_lacks count bits again ≡ modify_order_lacks count bits v
    unfolding has_required
    modify-kept e = by (selected_at count bits 3) (selected_at count bits 4) refl (both_true (selected_at count bits 2) _ (ap (λ (t : ℕ). has_required t count bits) (sym e) ∙ has)).1
      where
        by : (a b : Bool) → selected_at count bits 4 ≡ b → (a || b) ≡ true → (not a && not (eqb (get_or again 16 0) market)) ≡ (not a && not (eqb (get_or v 16 0) market))
        by true b q h = refl
        by false b q h = ap (λ (x : ℕ). not (eqb x market)) (type_kept e (q ∙ h))

    chosen : message ≡ 0x47 → selected_at count bits 2 ≡ true
    unfolding has_required
    chosen e = ap (λ (t : ℕ). has_required t count bits) (sym e) ∙ has

    purge-kept : message ≡ 0x47 → purge_orders_lacks count bits again ≡ purge_orders_lacks count bits v
    purge-kept e =
        ap₂ (λ (x y : ℕ). (eqb x char_f && not (selected_at count bits 0)) || ((eqb y char_s || eqb y char_b) && not (selected_at count bits 4)))
        (inst-kept e (chosen e) 0 (omega arith)) (inst-kept e (chosen e) 1 (omega arith))

    conflict-kept : message ≡ 0x47 → purge_orders_conflicts count bits again ≡ purge_orders_conflicts count bits v
    conflict-kept e =
        ap₂ (λ (a b : Bool). a || (selected_at count bits 8 && b))
        (ap₂ (λ (x y : ℕ). eqb x char_l && not (eqb y char_f)) (inst-kept e (chosen e) 2 (omega arith)) (inst-kept e (chosen e) 0 (omega arith)))
        (by (selected_at count bits 15) refl)
      where
        by : (a : Bool) → selected_at count bits 15 ≡ a → (a && not (eqb (get_or again 56 0) 0)) ≡ (a && not (eqb (get_or v 56 0) 0))
        by true q = ap (λ (x : ℕ). not (eqb x 0)) (unit_kept e q)
        by false q = refl

    lacks-kept : lacks message count bits again ≡ lacks message count bits v
    unfolding lacks
    lacks-kept = by (eqb message 0x3A) (eqb message 0x47) refl refl
      where
        by : (a b : Bool) → eqb message 0x3A ≡ a → eqb message 0x47 ≡ b
            → cond a (modify_order_lacks count bits again) (cond b (purge_orders_lacks count bits again) false) ≡ cond a (modify_order_lacks count bits v) (cond b (purge_orders_lacks count bits v) false)
        by true b p q = modify-kept (eqb-true message 0x3A p)
        by false true p q = purge-kept (eqb-true message 0x47 q)
        by false false p q = refl

    conflicts-kept : conflicts message count bits again ≡ conflicts message count bits v
    unfolding conflicts
    conflicts-kept = by (eqb message 0x47) refl
      where
        by : (a : Bool) → eqb message 0x47 ≡ a → (a && purge_orders_conflicts count bits again) ≡ (a && purge_orders_conflicts count bits v)
        by true p = conflict-kept (eqb-true message 0x47 p)
        by false p = refl

    -- THE LATE RULES LOOK AT SELECTED FIELDS ALONE: they judge what is read back as they judge what was held, whatever stands in unselected places
    pub late-kept : late_refusal message count bits again ≡ late_refusal message count bits v
    unfolding late_refusal
    late-kept = ap₂ (λ (a b : Bool). cond a (told not_selected (count_at message + count)) (cond b conflict 0)) lacks-kept conflicts-kept

-- ---- what the reader says of the message that would be written

-- 8, 9, 10 of a record, and then another refusal
abbrev values_of : Record → ℕ → ℕ
values_of r x =
    cond (any_bad (write_slots r)) (told unlisted_bit (count_at r.message + bad_byte 0 (write_slots r)))
    (cond (not (has_required r.message r.count r.bits)) (told not_selected (count_at r.message + r.count))
    (cond (not (fixed_good r.message r.fixed)) (told bad_value (fixed_wrong r.message r.fixed))
    (cond (not (middle_good r.message r.count r.bits (write_rest r))) (told bad_value (count_at r.message + r.count + 1))
    (cond (not (agree_held (write_slots r) r.slots)) (told bad_value (count_at r.message + r.count + write_middle r + wrong_held 0 (write_slots r) r.slots))
    x))))

-- the late 9, 23
abbrev late_of : Record → ℕ
late_of r = late_refusal r.message r.count r.bits r.slots

-- 4, 5, 7, and then these
abbrev chain_of : Record → ℕ
chain_of r =
    cond (not (of_member r.message || of_venue r.message)) unknown_type
    (cond (not (unit_good r.message r.unit r.number)) bad_unit
    (cond (ltb (most_of r.message) r.count) (told too_many_bitfields (count_at r.message))
    (values_of r (late_of r))))

-- the count byte of parts in a row
count-there : (p f rest : List ℕ) (c a : ℕ) → length p ≡ 10 → length f ≡ a - 10 → 10 ≤ a → get_or (p ++ (f ++ (c ∷ rest))) a 0 ≡ c
count-there p f rest c a lp lf ha =
    let n : length (p ++ f) ≡ a = length-append p f ∙ omega (arith, lp, lf, ha) in
    ap (λ (l : List ℕ). get_or l a 0) (sym (append_assoc p f (c ∷ rest))) ∙ get_or_at (p ++ f) c rest 0 a n

long_there : (p f rest : List ℕ) (c a : ℕ) → length p ≡ 10 → length f ≡ a - 10 → 10 ≤ a → a < length (p ++ (f ++ (c ∷ rest)))
long_there p f rest c a lp lf ha = omega (arith, length-append p (f ++ (c ∷ rest)), length-append f (c ∷ rest), lp, lf, ha)

-- the head decides, or what follows it
by_head : (known unit over : Bool) (place x : ℕ)
    → cond (eqb (cond (not known) unknown_type (cond (not unit) bad_unit (cond over (told too_many_bitfields place) 0))) 0) x (cond (not known) unknown_type (cond (not unit) bad_unit (cond over (told too_many_bitfields place) 0)))
    ≡ cond (not known) unknown_type (cond (not unit) bad_unit (cond over (told too_many_bitfields place) x))
by_head false unit over place x = refl
by_head true false over place x = refl
by_head true true true place x = ap (λ (b : Bool). cond b x (told too_many_bitfields place)) (told_refuses too_many_bitfields place (omega arith))
by_head true true false place x = refl

-- the values decide, or what follows them
by_values : (d e f g h : Bool) (q s t u w x : ℕ)
    → cond (eqb (cond d (told unlisted_bit q) (cond e (told not_selected s) (cond f (told bad_value t) (cond g (told bad_value u) (cond h (told bad_value w) 0))))) 0) x
    (cond d (told unlisted_bit q) (cond e (told not_selected s) (cond f (told bad_value t) (cond g (told bad_value u) (cond h (told bad_value w) 0)))))
    ≡ cond d (told unlisted_bit q) (cond e (told not_selected s) (cond f (told bad_value t) (cond g (told bad_value u) (cond h (told bad_value w) x))))
by_values true e f g h q s t u w x = ap (λ (b : Bool). cond b x (told unlisted_bit q)) (told_refuses unlisted_bit q (omega arith))
by_values false true f g h q s t u w x = ap (λ (b : Bool). cond b x (told not_selected s)) (told_refuses not_selected s (omega arith))
by_values false false true g h q s t u w x = ap (λ (b : Bool). cond b x (told bad_value t)) (told_refuses bad_value t (omega arith))
by_values false false false true h q s t u w x = ap (λ (b : Bool). cond b x (told bad_value u)) (told_refuses bad_value u (omega arith))
by_values false false false false true q s t u w x = ap (λ (b : Bool). cond b x (told bad_value w)) (told_refuses bad_value w (omega arith))
by_values false false false false false q s t u w x = refl

-- where they are not refused, what is required is selected
required_there : (r : Record) → values_of r 0 ≡ 0 → has_required r.message r.count r.bits ≡ true
required_there r z =
    let p8 = passed_told (any_bad (write_slots r)) _ _ _ z in
    not-false _ (passed_told (not (has_required r.message r.count r.bits)) _ _ _ p8.1).0

module _ (r : Record) (ok : Sound r) (held : write_middle r ≤ length (write_rest r)) where
  low : 10 ≤ count_at r.message
  low = omega (arith, (count_bounds r.message).low)

  kept_fixed : length (take (count_at r.message - 10) r.fixed) ≡ count_at r.message - 10
  kept_fixed = length-take-le (count_at r.message - 10) r.fixed (omega (arith, (count_bounds r.message).high, ok.fixed-length))

  kept-middle : length (take (write_middle r) (write_rest r)) ≡ write_middle r
  kept-middle = length-take-le (write_middle r) (write_rest r) held

  -- what follows the bitfields
  abbrev given : List ℕ
  given = take (write_middle r) (write_rest r) ++ gathered (write_slots r) r.slots

  count_is : count_of (order_bytes r) ≡ r.count
  unfolding order_bytes
  count_is = count-there (header_bytes (size_of r - 2) r.message r.unit r.number) (take (count_at r.message - 10) r.fixed) _ r.count (count_at r.message) refl kept_fixed low

  number_there : number_of (order_bytes r) ≡ r.number
  unfolding order_bytes
  number_there = header_number (size_of r - 2) r.message r.unit r.number _ ok.number_range

  has_count : count_at r.message < length (order_bytes r)
  unfolding order_bytes
  has_count = long_there (header_bytes (size_of r - 2) r.message r.unit r.number) (take (count_at r.message - 10) r.fixed) _ r.count (count_at r.message) refl kept_fixed low

  module _ (few : r.count ≤ most_bitfields) where
    kept_bits : length (take r.count r.bits) ≡ r.count
    kept_bits = length-take-le r.count r.bits (omega (arith, few, ok.bits_length))

    fits : sum width (write_slots r) ≤ length r.slots
    unfolding write_slots
    fits = omega (arith, widths_fit r.message r.count r.bits, ok.slots_length)

    there : count_at r.message + 1 + r.count ≤ length (order_bytes r)
    unfolding order_bytes
    there =
        omega (arith, parts-length (header_bytes (size_of r - 2) r.message r.unit r.number) (take (count_at r.message - 10) r.fixed) r.count (take r.count r.bits) given (count_at r.message) refl kept_fixed kept_bits low)

    -- its bitfields are the record's as far as they are counted
    bits_are : (j : ℕ) → j < r.count → get_or (bits_of (order_bytes r)) j 0 ≡ get_or r.bits j 0
    unfolding bits_of order_bytes
    bits_are j h =
        ap (λ (c : ℕ). get_or (take c (drop (count_at r.message + 1) (order_bytes r)) ++ zeros (most_bitfields - c)) j 0) count_is
        ∙ ap (λ (l : List ℕ). get_or (l ++ zeros (most_bitfields - r.count)) j 0) (parts_bits (header_bytes (size_of r - 2) r.message r.unit r.number) (take (count_at r.message - 10) r.fixed) r.count (take r.count r.bits) given (count_at r.message) refl kept_fixed kept_bits low)
        ∙ get_or-append (take r.count r.bits) (zeros (most_bitfields - r.count)) 0 j (omega (arith, h, kept_bits))
        ∙ get_or-take r.count r.bits j 0 h

    slots_are : slots_of r.message r.count (bits_of (order_bytes r)) ≡ write_slots r
    unfolding write_slots
    slots_are = slots_same r.count (bits_of (order_bytes r)) r.bits bits_are r.message

    rest_is : rest_of (order_bytes r) ≡ given
    unfolding rest_of order_bytes
    rest_is =
        ap (λ (c : ℕ). drop (count_at r.message + 1 + c) (order_bytes r)) count_is
        ∙ parts-rest (header_bytes (size_of r - 2) r.message r.unit r.number) (take (count_at r.message - 10) r.fixed) r.count (take r.count r.bits) given (count_at r.message) refl kept_fixed kept_bits low

    middle_is : middle_size r.message r.count (bits_of (order_bytes r)) (rest_of (order_bytes r)) ≡ write_middle r
    middle_is =
        ap (middle_size r.message r.count (bits_of (order_bytes r))) rest_is
        ∙ middle-same r.count (bits_of (order_bytes r)) r.bits bits_are r.message given
        ∙ middle-kept r.message r.count r.bits (write_rest r) (gathered (write_slots r) r.slots) held

    middle_good_is : middle_good r.message r.count (bits_of (order_bytes r)) (rest_of (order_bytes r)) ≡ middle_good r.message r.count r.bits (write_rest r)
    middle_good_is =
        ap (middle_good r.message r.count (bits_of (order_bytes r))) rest_is
        ∙ middle_good-same r.count (bits_of (order_bytes r)) r.bits bits_are r.message given
        ∙ good_kept r.message r.count r.bits (write_rest r) (gathered (write_slots r) r.slots) held

    optional_is : drop (write_middle r) (rest_of (order_bytes r)) ≡ gathered (write_slots r) r.slots
    optional_is = ap (drop (write_middle r)) rest_is ∙ drop_at (take (write_middle r) (write_rest r)) (gathered (write_slots r) r.slots) (write_middle r) kept-middle

    rest_long : write_middle r + sum takes (write_slots r) ≡ length (rest_of (order_bytes r))
    rest_long =
        sym
        (ap length rest_is
        ∙ length-append (take (write_middle r) (write_rest r)) (gathered (write_slots r) r.slots)
        ∙ ap₂ (λ (x y : ℕ). x + y) kept-middle (gathered-length (write_slots r) r.slots fits))

    -- what its fixed part is followed by in the record that is read
    abbrev after-fixed : List ℕ
    after-fixed = take (middle_of (order_bytes r)) (rest_of (order_bytes r)) ++ zeros (fixed_end - count_at r.message - middle_of (order_bytes r))

    fixed_is : fixed_of (order_bytes r) ≡ take (count_at r.message - 10) r.fixed ++ after-fixed
    unfolding fixed_of order_bytes
    fixed_is = ap (λ (l : List ℕ). l ++ after-fixed) (parts-fixed (header_bytes (size_of r - 2) r.message r.unit r.number) (take (count_at r.message - 10) r.fixed) r.count (take r.count r.bits) given (count_at r.message) refl kept_fixed kept_bits low)

    room-fixed : count_at r.message - 10 ≤ length r.fixed
    room-fixed = omega (arith, (count_bounds r.message).high, ok.fixed-length)

    good_is : fixed_good r.message (fixed_of (order_bytes r)) ≡ fixed_good r.message r.fixed
    good_is = ap (fixed_good r.message) fixed_is ∙ good_front r.fixed after-fixed (count_at r.message - 10) room-fixed r.message refl

    wrong_is : fixed_wrong r.message (fixed_of (order_bytes r)) ≡ fixed_wrong r.message r.fixed
    wrong_is = ap (fixed_wrong r.message) fixed_is ∙ wrong_front r.fixed after-fixed (count_at r.message - 10) room-fixed r.message refl

    block_is : block_refusal (total_of (order_bytes r)) r.message r.count (bits_of (order_bytes r)) (fixed_of (order_bytes r)) (rest_of (order_bytes r)) ≡ values_of r 0
    unfolding block_refusal
    block_is =
        let v = gathered (write_slots r) r.slots in
        let back = sym (append-nil v) in
        rw (
          slots_are,
          required_same r.count (bits_of (order_bytes r)) r.bits bits_are r.message,
          middle_is,
          eq-eqb (write_middle r + sum takes (write_slots r)) (length (rest_of (order_bytes r))) rest_long,
          good_is,
          wrong_is,
          middle_good_is,
          optional_is,
          ap (agree_sent (write_slots r)) back ∙ agree_gathered (write_slots r) r.slots [] fits,
          ap (wrong_sent 0 (write_slots r)) back ∙ wrong_gathered 0 (write_slots r) r.slots [] fits,
        )

    -- what the late rules look at
    abbrev layout_read : List ℕ
    layout_read = layout_of r.message r.count (bits_of (order_bytes r)) (drop (middle_size r.message r.count (bits_of (order_bytes r)) (rest_of (order_bytes r))) (rest_of (order_bytes r)))

    layout_is : layout_read ≡ layout_of r.message r.count r.bits (gathered (slots_of r.message r.count r.bits) r.slots)
    unfolding write_slots
    layout_is =
        ap (λ (n : ℕ). layout_of r.message r.count (bits_of (order_bytes r)) (drop n (rest_of (order_bytes r)))) middle_is
        ∙ ap (layout_of r.message r.count (bits_of (order_bytes r))) optional_is
        ∙ layout_same r.count (bits_of (order_bytes r)) r.bits bits_are r.message (gathered (write_slots r) r.slots)

    late_is : has_required r.message r.count r.bits ≡ true → late_refusal r.message r.count (bits_of (order_bytes r)) layout_read ≡ late_of r
    late_is has =
        ap (late_refusal r.message r.count (bits_of (order_bytes r))) layout_is
        ∙ late-same r.count (bits_of (order_bytes r)) r.bits bits_are r.message (layout_of r.message r.count r.bits (gathered (slots_of r.message r.count r.bits) r.slots))
        ∙ late-kept r.message r.count r.bits r.slots ok.slots_length has

    body_is : body_refusal (total_of (order_bytes r)) r.message r.count (bits_of (order_bytes r)) (fixed_of (order_bytes r)) (rest_of (order_bytes r)) ≡ values_of r (late_of r)
    unfolding body_refusal
    body_is =
        ap (λ (b : ℕ). cond (eqb b 0) (late_refusal r.message r.count (bits_of (order_bytes r)) layout_read) b) block_is
        ∙ by (eqb (values_of r 0) 0) refl
        ∙ by_values (any_bad (write_slots r)) (not (has_required r.message r.count r.bits)) (not (fixed_good r.message r.fixed)) (not (middle_good r.message r.count r.bits (write_rest r))) (not (agree_held (write_slots r) r.slots)) _ _ _ _ _ (late_of r)
      where
        by : (b : Bool) → eqb (values_of r 0) 0 ≡ b → cond b (late_refusal r.message r.count (bits_of (order_bytes r)) layout_read) (values_of r 0) ≡ cond b (late_of r) (values_of r 0)
        by true e = late_is (required_there r (eqb-true (values_of r 0) 0 e))
        by false e = refl

  -- its head
  head_over : ltb (most_of r.message) r.count ≡ true
      → head_refusal (order_bytes r) ≡ cond (not (of_member r.message || of_venue r.message)) unknown_type (cond (not (unit_good r.message r.unit r.number)) bad_unit (told too_many_bitfields (count_at r.message)))
  unfolding head_refusal order_bytes
  head_over e = rw (number_there, lt-leb (length (order_bytes r)) (count_at r.message) has_count, count_is, e)

  head_fine : ltb (most_of r.message) r.count ≡ false → count_at r.message + 1 + r.count ≤ length (order_bytes r)
      → head_refusal (order_bytes r) ≡ cond (not (of_member r.message || of_venue r.message)) unknown_type (cond (not (unit_good r.message r.unit r.number)) bad_unit 0)
  unfolding head_refusal order_bytes
  head_fine e h = rw (number_there, lt-leb (length (order_bytes r)) (count_at r.message) has_count, count_is, e, le-ltb (length (order_bytes r)) (count_at r.message + 1 + r.count) h)

  -- what follows it
  abbrev after : ℕ
  after = body_refusal (total_of (order_bytes r)) (type_of (order_bytes r)) (count_of (order_bytes r)) (bits_of (order_bytes r)) (fixed_of (order_bytes r)) (rest_of (order_bytes r))

  after_is : r.count ≤ most_bitfields → after ≡ values_of r (late_of r)
  unfolding order_bytes
  after_is few = ap (λ (c : ℕ). body_refusal (total_of (order_bytes r)) r.message c (bits_of (order_bytes r)) (fixed_of (order_bytes r)) (rest_of (order_bytes r))) count_is ∙ body_is few

  -- the reader's refusal of that message is the record's 4, 5, 7, 8, 9, 10, late 9 or 23
  read_of_written : read_refusal (order_bytes r) ≡ chain_of r
  unfolding read_refusal
  read_of_written = by (ltb (most_of r.message) r.count) refl
    where
      by : (b : Bool) → ltb (most_of r.message) r.count ≡ b → cond (eqb (head_refusal (order_bytes r)) 0) after (head_refusal (order_bytes r)) ≡ chain_of r
      by true e =
          ap (λ (h : ℕ). cond (eqb h 0) after h) (head_over e)
          ∙ by_head (of_member r.message || of_venue r.message) (unit_good r.message r.unit r.number) true (count_at r.message) after
          ∙ ap (λ (o : Bool). cond (not (of_member r.message || of_venue r.message)) unknown_type (cond (not (unit_good r.message r.unit r.number)) bad_unit (cond o (told too_many_bitfields (count_at r.message)) (values_of r (late_of r))))) (sym e)
      by false e =
          let few : r.count ≤ most_bitfields = omega (arith, ltb-false (most_of r.message) r.count e, most_bound r.message) in
          ap (λ (h : ℕ). cond (eqb h 0) after h) (head_fine e (there few))
          ∙ by_head (of_member r.message || of_venue r.message) (unit_good r.message r.unit r.number) false (count_at r.message) after
          ∙ ap (λ (x : ℕ). cond (not (of_member r.message || of_venue r.message)) unknown_type (cond (not (unit_good r.message r.unit r.number)) bad_unit x)) (after_is few)
          ∙ ap (λ (o : Bool). cond (not (of_member r.message || of_venue r.message)) unknown_type (cond (not (unit_good r.message r.unit r.number)) bad_unit (cond o (told too_many_bitfields (count_at r.message)) (values_of r (late_of r))))) (sym e)

-- up to 10 the writer's late stage is the reader's
same-late : (b i j : Bool) (late : ℕ) → eqb late 0 ≡ b → number_in (cond (not b) late (cond i not_zero (cond j no_room 0))) ≤ 10 → late ≡ cond (not b) late (cond i not_zero (cond j no_room 0))
same-late false i j late e m = refl
same-late true true j late e m = absurd (omega (arith, number_alone 12 (omega arith), m))
same-late true false true late e m = absurd (omega (arith, number_alone 13 (omega arith), m))
same-late true false false late e m = eqb-true late 0 e

-- and so is its chain
same_chain : (a b c d e f g h : Bool) (p q s t u w x y : ℕ) → (number_in y ≤ 10 → x ≡ y)
    → number_in (cond a unknown_type (cond b bad_unit (cond c (told too_many_bitfields p) (cond d (told unlisted_bit q) (cond e (told not_selected s) (cond f (told bad_value t) (cond g (told bad_value u) (cond h (told bad_value w) y)))))))) ≤ 10
    → cond a unknown_type (cond b bad_unit (cond c (told too_many_bitfields p) (cond d (told unlisted_bit q) (cond e (told not_selected s) (cond f (told bad_value t) (cond g (told bad_value u) (cond h (told bad_value w) x)))))))
    ≡ cond a unknown_type (cond b bad_unit (cond c (told too_many_bitfields p) (cond d (told unlisted_bit q) (cond e (told not_selected s) (cond f (told bad_value t) (cond g (told bad_value u) (cond h (told bad_value w) y)))))))
same_chain true b c d e f g h p q s t u w x y k m = refl
same_chain false true c d e f g h p q s t u w x y k m = refl
same_chain false false true d e f g h p q s t u w x y k m = refl
same_chain false false false true e f g h p q s t u w x y k m = refl
same_chain false false false false true f g h p q s t u w x y k m = refl
same_chain false false false false false true g h p q s t u w x y k m = refl
same_chain false false false false false false true h p q s t u w x y k m = refl
same_chain false false false false false false false true p q s t u w x y k m = refl
same_chain false false false false false false false false p q s t u w x y k m = k m

-- THE WRITER TELLS PLACES AS THE READER WOULD: a record that is refused with 7 to 10 is refused as the reader refuses the message that would be
-- written, number and place. The premise is that the record holds the whole middle of that message: RiskGroupIDCnt of Purge Orders is at most 44, and
-- the other types have no middle. Over 44 the writer answers 10, and there is no message that could be written
pub written_as_read : (r : Record) (room : ℕ) → Sound r → write_middle r ≤ length (write_rest r) → 7 ≤ number_in (write_refusal r room) → number_in (write_refusal r room) ≤ 10 → read_refusal (order_bytes r) ≡ write_refusal r room
unfolding write_refusal
written_as_read r room ok held l m =
    read_of_written r ok held
    ∙ same_chain (not (of_member r.message || of_venue r.message)) (not (unit_good r.message r.unit r.number)) (ltb (most_of r.message) r.count) (any_bad (write_slots r)) (not (has_required r.message r.count r.bits))
    (not (fixed_good r.message r.fixed)) (not (middle_good r.message r.count r.bits (write_rest r))) (not (agree_held (write_slots r) r.slots)) _ _ _ _ _ _ _ _
    (same-late (eqb (late_of r) 0) (not (zero_unused r)) (ltb room (size_of r)) (late_of r) refl) m
