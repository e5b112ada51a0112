-- WHAT READING TELLS: which of 6 to 10 a message with bitfields or a session message is refused with, and what stands at the place that is told; and
-- 23, which has none. Assumes nothing.
use Rattle.std.specs.Prelude.{◌≡◌, Bool, not, ◌&&◌, ◌||◌, ℕ, ◌+◌, ◌≤◌, ◌<◌, length, take}
use Rattle.std.proofs.Math.Path.{refl, sym, ap}
use Rattle.std.proofs.Common.{◌∙◌, true≢false, drop-drop}
use Rattle.std.proofs.Math.Bool.{true, false, cond, and-eq-true_iff}
use mathlib.Core.List.{List, [], ◌∷◌}
use native.Mathlib.Omega.{arith}
use Rattle.std.proofs.Math.Dec.{eqb, leb, ltb}
use Rattle.std.proofs.Math.ListN.{get_or, drop, length-drop}
use Rattle.std.proofs.Math.Seq.{get_or-drop}
use borrow.Author.Tests.{leb-true, leb-false, ltb-true, ltb-false, eqb-true, not-false}
use Rattle.refusals.specs.Names.{unknown_type, bad_unit, wrong_total, too_many_bitfields, unlisted_bit, not_selected, bad_value, bad_group, conflict}
use Rattle.refusals.specs.Told.{told}
use Rattle.refusals.specs.ToldLaws.{passed_told}
use Rattle.refusals.specs.FirstBad.{Tested, all_good, first_bad, places_within}
use Rattle.refusals.specs.FirstBadLaws.{First}
use Rattle.kinds.specs.Kinds.{agrees_of}
use Rattle.wire.specs.Header.{type_of, unit_of, number_of, total_of}
use Rattle.dictionary.specs.Dictionary.{is_new_order}
use Rattle.block.specs.Slots.{takes, sum, any_bad, bad_byte, agree_sent, wrong_sent}
use Rattle.block.specs.Places.{selected_at, entry_at, slots_of, has_required}
use Rattle.block.proofs.FirstBad.{BadBit, BadField, eight_names_the_first_bad_byte, ten_names_the_first_bad_field}
use Rattle.block.specs.Sizes.{all_places, fixed_end}
use Rattle.orders.specs.Shapes.{of_member, of_venue, count_at, most_of, unit_good, fixed_good}
use Rattle.orders.specs.FixedFields.{new_order_fields, cancel_order_fields, modify_order_fields, acknowledgment_fields, execution_fields, rejection_fields, fixed_fields, fixed_wrong}
use Rattle.orders.proofs.FixedFieldLaws.{fields_good, fixed-within, fixed_names_the_first}
use Rattle.orders.specs.Middle.{risk_groups, middle_good}
use Rattle.orders.specs.Late.{lacks, conflicts, late_refusal}
use Rattle.orders.specs.Orders.{count_of, bits_of, rest_of, middle_of, optional_of, fixed_of, head_refusal, block_refusal, layout_of, body_refusal, read_refusal}
use Rattle.session_messages.specs.ValueFields.{name_fields, status_fields, reason_fields, value_fields, values_wrong}
use Rattle.session_messages.proofs.ValueFieldLaws.{values-within, values_name_the_first}
use Rattle.session_messages.proofs.ValueFieldLaws as values
use Rattle.order_reader.proofs.Heads.{good_head}
use Rattle.session_messages.specs.Sessions as sessions

-- ---- no place is below 10, where the header ends

-- what is told of tested fields whose places are from a number on
first_from : (least most : ℕ) (ts : List Tested) → places_within least most ts ≡ true → all_good ts ≡ false → least ≤ first_bad ts
first_from least most [] h g = absurd (true≢false g)
first_from least most (t ∷ ts) h g =
    let b = (and-eq-true_iff (leb least t.place && leb t.place most) (places_within least most ts)).0 h in
    let p = (and-eq-true_iff (leb least t.place) (leb t.place most)).0 b.0 in
    by t.good (leb-true least t.place p.0) g (first_from least most ts b.1)
  where
    by : (a : Bool) → least ≤ t.place → (a && all_good ts) ≡ false → (all_good ts ≡ false → least ≤ first_bad ts) → least ≤ cond a (first_bad ts) t.place
    by true l z more = more z
    by false l z more = l

fixed-places : (message : ℕ) (f : List ℕ) → places_within 10 fixed_end (fixed_fields message f) ≡ true
unfolding fixed_fields
fixed-places message f = by (is_new_order message) (eqb message 0x39) (eqb message 0x25) (eqb message 0x2C) (eqb message 0x3A) (eqb message 0x47)
  where
    by : (a b c d e g : Bool)
        → places_within 10 fixed_end (cond a (new_order_fields f) (cond b (cancel_order_fields f) (cond c (acknowledgment_fields f) (cond d (execution_fields f) (cond e (modify_order_fields f) (cond g [] (rejection_fields f))))))) ≡ true
    by true b c d e g = refl
    by false true c d e g = refl
    by false false true d e g = refl
    by false false false true e g = refl
    by false false false false true g = refl
    by false false false false false true = refl
    by false false false false false false = refl

pub fixed_from : (message : ℕ) (f : List ℕ) → fixed_good message f ≡ false → 10 ≤ fixed_wrong message f
unfolding fixed_wrong
fixed_from message f g = first_from 10 fixed_end (fixed_fields message f) (fixed-places message f) (fields_good message f ∙ g)

value_places : (message : ℕ) (b : List ℕ) → places_within 10 69 (value_fields message b) ≡ true
unfolding value_fields
value_places message b = by (eqb message 0x37) (eqb message 0x24) (eqb message 0x08)
  where
    by : (x y z : Bool) → places_within 10 69 (cond x (name_fields b) (cond y (status_fields b) (cond z (reason_fields b) []))) ≡ true
    by true y z = refl
    by false true z = refl
    by false false true = refl
    by false false false = refl

pub values_from : (message : ℕ) (b : List ℕ) → sessions.values_good message b ≡ false → 10 ≤ values_wrong message b
unfolding values_wrong
values_from message b g = first_from 10 69 (value_fields message b) (value_places message b) (values.fields_good message b ∙ g)

-- ---- what is told

-- the message is as long as its count, its middle and its set bits say
abbrev pub AsLong : List ℕ → Type 0
AsLong m = count_at (type_of m) + 1 + count_of m + (middle_of m + sum takes (slots_of (type_of m) (count_of m) (bits_of m))) ≡ length m

-- RiskGroupIDCnt of Purge Orders, which is over 10, by its place: the byte after the bitfields
pub record MiddleNamed (m : List ℕ) (place : ℕ) : Type 0 where
  pub fixed : fixed_good (type_of m) (fixed_of m) ≡ true
  pub against : middle_good (type_of m) (count_of m) (bits_of m) (rest_of m) ≡ false
  pub there : place ≡ count_at (type_of m) + 1 + count_of m
  pub type : type_of m ≡ 0x47
  pub over : 10 < get_or m place 0

-- the first bad optional field of a message, by its place in the message and its bytes there
pub record OptionalNamed (m : List ℕ) (place : ℕ) : Type 0 where
  pub byte : ℕ
  pub field : BadField (slots_of (type_of m) (count_of m) (bits_of m)) (optional_of m) 0 byte
  pub fixed : fixed_good (type_of m) (fixed_of m) ≡ true
  pub middle : middle_good (type_of m) (count_of m) (bits_of m) (rest_of m) ≡ true
  pub there : place ≡ count_at (type_of m) + 1 + count_of m + middle_of m + sum takes field.earlier
  pub bytes : agrees_of field.kind (take field.wide (drop place m)) ≡ false

-- a message whose bits, total and values are good
pub record ValuesGood (m : List ℕ) : Type 0 where
  pub listed : any_bad (slots_of (type_of m) (count_of m) (bits_of m)) ≡ false
  pub required : has_required (type_of m) (count_of m) (bits_of m) ≡ true
  pub total : AsLong m
  pub fixed : fixed_good (type_of m) (fixed_of m) ≡ true
  pub middle : middle_good (type_of m) (count_of m) (bits_of m) (rest_of m) ≡ true
  pub agree : agree_sent (slots_of (type_of m) (count_of m) (bits_of m)) (optional_of m) ≡ true

-- what the reader's answer to a message with bitfields tells: nothing with a place, or one of these
pub data Tells (m : List ℕ) : ℕ → Type 0 where
  placeless : (n : ℕ) → n ≤ 5 → Tells m n
  -- 6: the message's end
  six : Tells m (told wrong_total (total_of m))
  -- 7: the count byte, which is there
  seven : count_at (type_of m) < length m → most_of (type_of m) < count_of m → Tells m (told too_many_bitfields (count_at (type_of m)))
  -- 8: the bitfield byte of the first set bit that is not listed
  eight : count_at (type_of m) + 1 + count_of m ≤ length m → (byte : ℕ) → BadBit (selected_at (count_of m) (bits_of m)) (entry_at (type_of m)) all_places 0 byte → Tells m (told unlisted_bit (count_at (type_of m) + byte))
  -- 9: the last bitfield byte, or the count byte where there are none; a field is not selected that is required whatever the others hold
  nine : count_at (type_of m) + 1 + count_of m ≤ length m → has_required (type_of m) (count_of m) (bits_of m) ≡ false → Tells m (told not_selected (count_at (type_of m) + count_of m))
  -- 10: the first field of the fixed part that is bad
  ten_fixed : count_at (type_of m) + 1 + count_of m ≤ length m → (place : ℕ) → First (fixed_fields (type_of m) (fixed_of m)) place → 10 ≤ place → place ≤ count_at (type_of m) → Tells m (told bad_value place)
  -- or, where the fixed part is good, the middle that is bad
  ten_middle : AsLong m → (place : ℕ) → MiddleNamed m place → Tells m (told bad_value place)
  -- or, where both are good, the first optional field that is bad
  ten_optional : AsLong m → (place : ℕ) → OptionalNamed m place → Tells m (told bad_value place)
  -- 9 again, at the same place: all values are good, and one of them needs a field that is not selected
  nine_late : ValuesGood m → lacks (type_of m) (count_of m) (bits_of m) (layout_of (type_of m) (count_of m) (bits_of m) (optional_of m)) ≡ true → Tells m (told not_selected (count_at (type_of m) + count_of m))
  -- 23, without a place: all values are good, none of them needs a field that is not selected, and two of them do not go together
  twenty_three : ValuesGood m → lacks (type_of m) (count_of m) (bits_of m) (layout_of (type_of m) (count_of m) (bits_of m) (optional_of m)) ≡ false
      → conflicts (type_of m) (count_of m) (bits_of m) (layout_of (type_of m) (count_of m) (bits_of m) (optional_of m)) ≡ true → Tells m conflict

module _ (m : List ℕ) where
  middle-named : middle_good (type_of m) (count_of m) (bits_of m) (rest_of m) ≡ false → fixed_good (type_of m) (fixed_of m) ≡ true → MiddleNamed m (count_at (type_of m) + count_of m + 1)
  unfolding middle_good rest_of
  middle-named h g =
      let e : count_at (type_of m) + 1 + count_of m + 0 ≡ count_at (type_of m) + count_of m + 1 = omega arith in
      let q = by (eqb (type_of m) 0x47) refl h in
      record {
        fixed = g;
        against = h;
        there = omega arith;
        type = q.0;
        over = let d = get_or-drop (count_at (type_of m) + 1 + count_of m) m 0 0 ∙ ap (λ (n : ℕ). get_or m n 0) e in omega (arith, q.1, d);
      }
    where
      by : (b : Bool) → eqb (type_of m) 0x47 ≡ b → cond b (leb (risk_groups (rest_of m)) 10) true ≡ false → (type_of m ≡ 0x47) × (10 < risk_groups (rest_of m))
      by true e z = (eqb-true (type_of m) 0x47 e, leb-false (risk_groups (rest_of m)) 10 z)
      by false e z = absurd (true≢false z)

  optional_named : agree_sent (slots_of (type_of m) (count_of m) (bits_of m)) (optional_of m) ≡ false → fixed_good (type_of m) (fixed_of m) ≡ true → middle_good (type_of m) (count_of m) (bits_of m) (rest_of m) ≡ true
      → OptionalNamed m (count_at (type_of m) + count_of m + middle_of m + wrong_sent 0 (slots_of (type_of m) (count_of m) (bits_of m)) (optional_of m))
  unfolding optional_of rest_of
  optional_named h g q =
      let ss = slots_of (type_of m) (count_of m) (bits_of m) in
      let f = ten_names_the_first_bad_field 0 ss (optional_of m) h in
      let start = count_at (type_of m) + 1 + count_of m in
      let e : count_at (type_of m) + count_of m + middle_of m + wrong_sent 0 ss (optional_of m) ≡ count_at (type_of m) + 1 + count_of m + middle_of m + sum takes f.earlier = omega (arith, f.told) in
      record {
        byte = wrong_sent 0 ss (optional_of m);
        field = f;
        fixed = g;
        middle = q;
        there = e;
        bytes =
            ap (λ (l : List ℕ). agrees_of f.kind (take f.wide l))
            (ap (λ (n : ℕ). drop n m) e ∙ sym (drop-drop (sum takes f.earlier) (start + middle_of m) m) ∙ ap (drop (sum takes f.earlier)) (sym (drop-drop (middle_of m) start m)))
            ∙ f.against;
      }

  exact : count_at (type_of m) + 1 + count_of m ≤ length m → eqb (middle_of m + sum takes (slots_of (type_of m) (count_of m) (bits_of m))) (length (rest_of m)) ≡ true → AsLong m
  unfolding rest_of
  exact h e =
      omega (arith, h, eqb-true (middle_of m + sum takes (slots_of (type_of m) (count_of m) (bits_of m))) (length (rest_of m)) e, length-drop (count_at (type_of m) + 1 + count_of m) m)

  block-tells : count_at (type_of m) + 1 + count_of m ≤ length m → Tells m (block_refusal (total_of m) (type_of m) (count_of m) (bits_of m) (fixed_of m) (rest_of m))
  unfolding block_refusal optional_of
  block-tells h =
      let ss = slots_of (type_of m) (count_of m) (bits_of m) in
      by (any_bad ss) (has_required (type_of m) (count_of m) (bits_of m)) (eqb (middle_of m + sum takes ss) (length (rest_of m))) (fixed_good (type_of m) (fixed_of m)) (middle_good (type_of m) (count_of m) (bits_of m) (rest_of m)) (agree_sent ss (optional_of m)) refl refl refl refl refl refl
    where
      by : (a b c d e f : Bool) → any_bad (slots_of (type_of m) (count_of m) (bits_of m)) ≡ a → has_required (type_of m) (count_of m) (bits_of m) ≡ b → eqb (middle_of m + sum takes (slots_of (type_of m) (count_of m) (bits_of m))) (length (rest_of m)) ≡ c
          → fixed_good (type_of m) (fixed_of m) ≡ d → middle_good (type_of m) (count_of m) (bits_of m) (rest_of m) ≡ e → agree_sent (slots_of (type_of m) (count_of m) (bits_of m)) (optional_of m) ≡ f
          → Tells m (cond a (told unlisted_bit (count_at (type_of m) + bad_byte 0 (slots_of (type_of m) (count_of m) (bits_of m)))) (cond (not b) (told not_selected (count_at (type_of m) + count_of m)) (cond (not c) (told wrong_total (total_of m))
          (cond (not d) (told bad_value (fixed_wrong (type_of m) (fixed_of m))) (cond (not e) (told bad_value (count_at (type_of m) + count_of m + 1))
          (cond (not f) (told bad_value (count_at (type_of m) + count_of m + middle_of m + wrong_sent 0 (slots_of (type_of m) (count_of m) (bits_of m)) (optional_of m))) 0))))))
      by true b c d e f p n q r s t = eight h _ (eight_names_the_first_bad_byte (selected_at (count_of m) (bits_of m)) (entry_at (type_of m)) all_places 0 p)
      by false false c d e f p n q r s t = nine h n
      by false true false d e f p n q r s t = six
      by false true true false e f p n q r s t = ten_fixed h _ (fixed_names_the_first (type_of m) (fixed_of m) r) (fixed_from (type_of m) (fixed_of m) r) (fixed-within (type_of m) (fixed_of m))
      by false true true true false f p n q r s t = ten_middle (exact h q) _ (middle-named s r)
      by false true true true true false p n q r s t = ten_optional (exact h q) _ (optional_named t r s)
      by false true true true true true p n q r s t = placeless 0 (omega arith)

  values_good_lem : count_at (type_of m) + 1 + count_of m ≤ length m → block_refusal (total_of m) (type_of m) (count_of m) (bits_of m) (fixed_of m) (rest_of m) ≡ 0 → ValuesGood m
  unfolding block_refusal optional_of
  values_good_lem h z =
      let ss = slots_of (type_of m) (count_of m) (bits_of m) in
      let p8 = passed_told (any_bad ss) _ _ _ z in
      let p9 = passed_told (not (has_required (type_of m) (count_of m) (bits_of m))) _ _ _ p8.1 in
      let p6 = passed_told (not (eqb (middle_of m + sum takes ss) (length (rest_of m)))) _ _ _ p9.1 in
      let pf = passed_told (not (fixed_good (type_of m) (fixed_of m))) _ _ _ p6.1 in
      let pm = passed_told (not (middle_good (type_of m) (count_of m) (bits_of m) (rest_of m))) _ _ _ pf.1 in
      let po = passed_told (not (agree_sent ss (drop (middle_of m) (rest_of m)))) _ _ _ pm.1 in
      record {
        listed = p8.0;
        required = not-false _ p9.0;
        total = exact h (not-false _ p6.0);
        fixed = not-false _ pf.0;
        middle = not-false _ pm.0;
        agree = not-false _ po.0;
      }

  late-tells : ValuesGood m → Tells m (late_refusal (type_of m) (count_of m) (bits_of m) (layout_of (type_of m) (count_of m) (bits_of m) (optional_of m)))
  unfolding late_refusal
  late-tells g =
      let slots = layout_of (type_of m) (count_of m) (bits_of m) (optional_of m) in
      by (lacks (type_of m) (count_of m) (bits_of m) slots) (conflicts (type_of m) (count_of m) (bits_of m) slots) refl refl
    where
      by : (a b : Bool) → lacks (type_of m) (count_of m) (bits_of m) (layout_of (type_of m) (count_of m) (bits_of m) (optional_of m)) ≡ a
          → conflicts (type_of m) (count_of m) (bits_of m) (layout_of (type_of m) (count_of m) (bits_of m) (optional_of m)) ≡ b
          → Tells m (cond a (told not_selected (count_at (type_of m) + count_of m)) (cond b conflict 0))
      by true b p q = nine_late g p
      by false true p q = twenty_three g p q
      by false false p q = placeless 0 (omega arith)

  body-tells : count_at (type_of m) + 1 + count_of m ≤ length m → Tells m (body_refusal (total_of m) (type_of m) (count_of m) (bits_of m) (fixed_of m) (rest_of m))
  unfolding body_refusal optional_of
  body-tells h = by (eqb (block_refusal (total_of m) (type_of m) (count_of m) (bits_of m) (fixed_of m) (rest_of m)) 0) refl
    where
      by : (b : Bool) → eqb (block_refusal (total_of m) (type_of m) (count_of m) (bits_of m) (fixed_of m) (rest_of m)) 0 ≡ b
          → Tells m (cond b (late_refusal (type_of m) (count_of m) (bits_of m) (layout_of (type_of m) (count_of m) (bits_of m) (optional_of m))) (block_refusal (total_of m) (type_of m) (count_of m) (bits_of m) (fixed_of m) (rest_of m)))
      by true e = late-tells (values_good_lem h (eqb-true _ _ e))
      by false e = block-tells h

  head_tells : Tells m (head_refusal m)
  unfolding head_refusal
  head_tells =
      by (of_member (type_of m) || of_venue (type_of m)) (unit_good (type_of m) (unit_of m) (number_of m)) (leb (length m) (count_at (type_of m))) (ltb (most_of (type_of m)) (count_of m)) (ltb (length m) (count_at (type_of m) + 1 + count_of m)) refl refl
    where
      by : (a b c d e : Bool) → leb (length m) (count_at (type_of m)) ≡ c → ltb (most_of (type_of m)) (count_of m) ≡ d
          → Tells m (cond (not a) unknown_type (cond (not b) bad_unit (cond c (told wrong_total (total_of m)) (cond d (told too_many_bitfields (count_at (type_of m))) (cond e (told wrong_total (total_of m)) 0)))))
      by false b c d e p q = placeless 4 (omega arith)
      by true false c d e p q = placeless 5 (omega arith)
      by true true true d e p q = six
      by true true false true e p q = seven (leb-false _ _ p) (ltb-true _ _ q)
      by true true false false true p q = six
      by true true false false false p q = placeless 0 (omega arith)

  -- WHAT READING TELLS
  pub reading-tells : Tells m (read_refusal m)
  unfolding read_refusal
  reading-tells = by (eqb (head_refusal m) 0) refl
    where
      by : (b : Bool) → eqb (head_refusal m) 0 ≡ b → Tells m (cond b (body_refusal (total_of m) (type_of m) (count_of m) (bits_of m) (fixed_of m) (rest_of m)) (head_refusal m))
      by true e = body-tells (good_head m (type_of m) (count_at (type_of m)) (count_of m) (eqb-true _ _ e) refl refl refl).fits
      by false e = head_tells

-- ---- the session messages

pub data SessionTells (m : List ℕ) : ℕ → Type 0 where
  placeless : (n : ℕ) → n ≤ 5 → SessionTells m n
  eleven : SessionTells m bad_group
  six : SessionTells m (told wrong_total (total_of m))
  ten : 10 + sessions.fixed_size (type_of m) ≤ length m → 0 < sessions.fixed_size (type_of m) → (place : ℕ) → First (value_fields (type_of m) (drop 10 m)) place → 10 ≤ place → place ≤ 18 → SessionTells m (told bad_value place)

-- a header alone has no values
pub some : (message : ℕ) (b : List ℕ) → sessions.values_good message b ≡ false → 0 < sessions.fixed_size message
unfolding sessions.values_good sessions.fixed_size
some message b h = by (eqb message 0x37) (eqb message 0x24) (eqb message 0x08) h
  where
    by : (x y z : Bool) → cond x (sessions.names_good b) (cond y (sessions.status_good b) (cond z (sessions.reason_good b) true)) ≡ false → 0 < cond x 19 (cond y 67 (cond z 66 0))
    by true y z q = omega arith
    by false true z q = omega arith
    by false false true q = omega arith
    by false false false q = absurd (true≢false q)

module _ (m : List ℕ) where
  pub session_tells : SessionTells m (sessions.read_refusal m)
  unfolding sessions.read_refusal
  session_tells =
      by (sessions.of_member (type_of m) || sessions.of_venue (type_of m)) (sessions.unit_good (unit_of m) (number_of m)) (ltb (length m) (10 + sessions.fixed_size (type_of m))) (sessions.values_good (type_of m) (drop 10 m))
      (eqb (sessions.body_end (type_of m) (drop 10 m)) 0) (eqb (sessions.body_end (type_of m) (drop 10 m)) (length (drop 10 m) + 1)) refl refl
    where
      by : (a b c d e f : Bool) → ltb (length m) (10 + sessions.fixed_size (type_of m)) ≡ c → sessions.values_good (type_of m) (drop 10 m) ≡ d
          → SessionTells m (cond (not a) unknown_type (cond (not b) bad_unit (cond c (told wrong_total (total_of m)) (cond (not d) (told bad_value (values_wrong (type_of m) (drop 10 m))) (cond e bad_group (cond (not f) (told wrong_total (total_of m)) 0))))))
      by false b c d e f p q = placeless 4 (omega arith)
      by true false c d e f p q = placeless 5 (omega arith)
      by true true true d e f p q = six
      by true true false false e f p q = ten (ltb-false _ _ p) (some (type_of m) (drop 10 m) q) _ (values_name_the_first (type_of m) (drop 10 m) q) (values_from (type_of m) (drop 10 m) q) (values-within (type_of m) (drop 10 m))
      by true true false true true f p q = eleven
      by true true false true false false p q = six
      by true true false true false true p q = placeless 0 (omega arith)
