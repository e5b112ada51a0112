-- What follows where a message with bitfields is read or written: the refusals one by one. Assumes nothing.
use Rattle.std.specs.Prelude.{◌≡◌, Bool, not, ◌||◌, ◌⊎◌, List, [], ◌∷◌, ◌++◌, ℕ, suc, ◌+◌, ◌*◌, ◌-◌, ◌≤◌, ltb, eqb, take, drop}
use Rattle.std.proofs.Math.Path.{refl, ap}
use Rattle.std.proofs.Common.{◌∙◌, arith, length-drop, le-ltb, ltb-false, eq-eqb, ne_eqb, eqb-true, leb-true}
use Rattle.std.proofs.Math.Bool.{true, false, cond}
use Rattle.std.proofs.Math.Dec.{leb}
use Rattle.std.proofs.Math.ListN.{length}
use Rattle.std.proofs.lemmas.Bool.{lt-leb, eqb-false, not-false}
use Rattle.kinds.specs.Kinds.{all_nul}
use Rattle.wire.specs.Header.{type_of, unit_of, number_of, total_of}
use Rattle.refusals.specs.ToldLaws.{passed_told}
use Rattle.wire.proofs.FrameLaws.{passed}
use Rattle.block.specs.Slots.{takes, sum, any_bad, agree_sent, agree_held, zero_elsewhere}
use Rattle.block.specs.SlotLaws.{both_true}
use Rattle.block.specs.Places.{slots_of, has_required}
use Rattle.dictionary.specs.Dictionary.{is_new_order}
use Rattle.dictionary.proofs.NewOrders.{a-new_order, no_new_order}
use Rattle.orders.specs.Shapes.{of_member, sequenced, unsequenced, of_venue, count_at, most_of, unit_good, fixed_good}
use Rattle.orders.specs.Middle.{risk_groups, middle_size, middle_good}
use Rattle.orders.specs.Late.{late_refusal}
use Rattle.orders.specs.Orders.{count_of, bits_of, rest_of, middle_of, optional_of, fixed_of, head_refusal, block_refusal, body_refusal, read_refusal, layout_of, write_slots, write_rest, write_middle, zero_unused, size_of, write_refusal}
use Rattle.orders.specs.declared.Record.{Record}
use Rattle.block.specs.Sizes.{fixed_end, most_bitfields}

-- ---- shapes

-- the count byte stands at 11 to 100
pub record CountBounds (message : ℕ) : Type 0 where
  pub low : 11 ≤ count_at message
  pub high : count_at message ≤ fixed_end

pub count_bounds : (message : ℕ) → CountBounds message
unfolding count_at
count_bounds message = record {
  low = low (is_new_order message) (eqb message 0x39) (eqb message 0x25) (eqb message 0x2C) (eqb message 0x3A) (eqb message 0x47);
  high = high (is_new_order message) (eqb message 0x39) (eqb message 0x25) (eqb message 0x2C) (eqb message 0x3A) (eqb message 0x47);
}
  where
    low : (a b c d e f : Bool) → 11 ≤ cond a 35 (cond b 30 (cond c 47 (cond d 69 (cond e 50 (cond f 11 fixed_end)))))
    low true b c d e f = omega arith
    low false true c d e f = omega arith
    low false false true d e f = omega arith
    low false false false true e f = omega arith
    low false false false false true f = omega arith
    low false false false false false true = omega arith
    low false false false false false false = omega arith

    high : (a b c d e f : Bool) → cond a 35 (cond b 30 (cond c 47 (cond d 69 (cond e 50 (cond f 11 fixed_end))))) ≤ fixed_end
    high true b c d e f = omega arith
    high false true c d e f = omega arith
    high false false true d e f = omega arith
    high false false false true e f = omega arith
    high false false false false true f = omega arith
    high false false false false false true = omega arith
    high false false false false false false = omega arith

-- no type has more bitfields than a record
pub most_bound : (message : ℕ) → most_of message ≤ most_bitfields
unfolding most_of
most_bound message = by (is_new_order message) (of_member message) (sequenced message)
  where
    by : (a b c : Bool) → cond a 10 (cond b 2 (cond c 15 19)) ≤ most_bitfields
    by true b c = omega arith
    by false true c = omega arith
    by false false true = omega arith
    by false false false = omega arith

-- ---- the types

-- where one of two tests holds
pub either : (x : Bool) {y : Bool} {A : Type 0} → (x ≡ true → A) → (y ≡ true → A) → (x || y) ≡ true → A
either true l r q = l refl
either false l r q = r q

-- a sequenced message's type is one of two
pub sequenced_types : (P : ℕ → Type 0) → P 0x25 → P 0x2C → (t : ℕ) → sequenced t ≡ true → P t
sequenced_types P p q t = either (eqb t 0x25) (at 0x25 p) (at 0x2C q)
  where
    at : (x : ℕ) → P x → eqb t x ≡ true → P t
    at x h e = let k : t ≡ x = eqb-true t x e in rw k h

-- an unsequenced message's type is one of three
pub unsequenced_types : (P : ℕ → Type 0) → P 0x26 → P 0x29 → P 0x2B → (t : ℕ) → unsequenced t ≡ true → P t
unsequenced_types P p q r t = either (eqb t 0x26) (at 0x26 p) (either (eqb t 0x29) (at 0x29 q) (at 0x2B r))
  where
    at : (x : ℕ) → P x → eqb t x ≡ true → P t
    at x h e = let k : t ≡ x = eqb-true t x e in rw k h

-- ---- where the count stands, by type

pub in_new_order : (message : ℕ) → (message ≡ 0x38) ⊎ (message ≡ 0xB8) → count_at message ≡ 35
unfolding count_at
in_new_order message e = rw (a-new_order message e)

pub in_cancel_order : (message : ℕ) → message ≡ 0x39 → count_at message ≡ 30
unfolding count_at
in_cancel_order message e = rw e

pub in_acknowledgment : (message : ℕ) → message ≡ 0x25 → count_at message ≡ 47
unfolding count_at
in_acknowledgment message e = rw e

pub in_execution : (message : ℕ) → message ≡ 0x2C → count_at message ≡ 69
unfolding count_at
in_execution message e = rw e

pub in_modify_order : (message : ℕ) → message ≡ 0x3A → count_at message ≡ 50
unfolding count_at
in_modify_order message e = rw e

pub in_purge_orders : (message : ℕ) → message ≡ 0x47 → count_at message ≡ 11
unfolding count_at
in_purge_orders message e = rw e

pub in_others : (message : ℕ) → ((message ≡ 0x38) ⊎ (message ≡ 0xB8) → ⊥) → (message ≡ 0x39 → ⊥) → (message ≡ 0x25 → ⊥) → (message ≡ 0x2C → ⊥) → (message ≡ 0x3A → ⊥) → (message ≡ 0x47 → ⊥)
    → count_at message ≡ fixed_end
unfolding count_at
in_others message a b c d e f = rw (no_new_order message a, ne_eqb message 0x39 b, ne_eqb message 0x25 c, ne_eqb message 0x2C d, ne_eqb message 0x3A e, ne_eqb message 0x47 f)

-- ---- the middle

-- a good middle, and the fixed part before it, fit where a record keeps them
pub middle-fits : (message count : ℕ) (bits rest : List ℕ) → middle_good message count bits rest ≡ true → count_at message + middle_size message count bits rest ≤ fixed_end
unfolding middle_size middle_good
middle-fits message count bits rest g = by (eqb message 0x47) refl g
  where
    by : (b : Bool) → eqb message 0x47 ≡ b → cond b (leb (risk_groups rest) 10) true ≡ true → count_at message + cond b (1 + 2 * risk_groups rest) 0 ≤ fixed_end
    by true e h =
        let k : count_at message ≡ 11 = in_purge_orders message (eqb-true message 0x47 e) in
        let n : risk_groups rest ≤ 10 = leb-true (risk_groups rest) 10 h in
        omega arith
    by false e h = omega (arith, (count_bounds message).high)

-- the first byte of what follows the bitfields tells all of it, so that its own bytes tell it too, whatever stands after them
first-kept : (n : ℕ) (rest after : List ℕ) → suc n ≤ length rest → risk_groups (take (suc n) rest ++ after) ≡ risk_groups rest
first-kept n [] after h = absurd (omega arith)
first-kept n (x ∷ rest) after h = refl

module _ (message count : ℕ) (bits rest after : List ℕ) (there : middle_size message count bits rest ≤ length rest) where
  groups_kept : 1 + 2 * risk_groups rest ≤ length rest → risk_groups (take (1 + 2 * risk_groups rest) rest ++ after) ≡ risk_groups rest
  groups_kept h =
      let e : 1 + 2 * risk_groups rest ≡ suc (2 * risk_groups rest) = omega arith in
      ap (λ (n : ℕ). risk_groups (take n rest ++ after)) e ∙ first-kept (2 * risk_groups rest) rest after (omega arith)

  pub middle-kept : middle_size message count bits (take (middle_size message count bits rest) rest ++ after) ≡ middle_size message count bits rest
  unfolding middle_size
  middle-kept = sized (eqb message 0x47) there
    where
      sized : (b : Bool) → cond b (1 + 2 * risk_groups rest) 0 ≤ length rest
          → cond b (1 + 2 * risk_groups (take (cond b (1 + 2 * risk_groups rest) 0) rest ++ after)) 0 ≡ cond b (1 + 2 * risk_groups rest) 0
      sized true h = ap (λ (n : ℕ). 1 + 2 * n) (groups_kept h)
      sized false h = refl

  pub good_kept : middle_good message count bits (take (middle_size message count bits rest) rest ++ after) ≡ middle_good message count bits rest
  unfolding middle_size middle_good
  good_kept = judged (eqb message 0x47) there
    where
      judged : (b : Bool) → cond b (1 + 2 * risk_groups rest) 0 ≤ length rest
          → cond b (leb (risk_groups (take (cond b (1 + 2 * risk_groups rest) 0) rest ++ after)) 10) true ≡ cond b (leb (risk_groups rest) 10) true
      judged true h = ap (λ (n : ℕ). leb n 10) (groups_kept h)
      judged false h = refl

-- ---- reading

-- what holds of a message that is read
pub record Good (m : List ℕ) : Type 0 where
  pub known : (of_member (type_of m) || of_venue (type_of m)) ≡ true
  pub unit : unit_good (type_of m) (unit_of m) (number_of m) ≡ true
  pub count : count_of m ≤ most_of (type_of m)
  pub there : count_at (type_of m) + 1 + count_of m ≤ length m
  pub listed : any_bad (slots_of (type_of m) (count_of m) (bits_of m)) ≡ false
  pub required : has_required (type_of m) (count_of m) (bits_of m) ≡ true
  pub middle-there : middle_of m ≤ length (rest_of m)
  pub total : sum takes (slots_of (type_of m) (count_of m) (bits_of m)) ≡ length (optional_of m)
  pub fixed : fixed_good (type_of m) (fixed_of m) ≡ true
  pub middle : middle_good (type_of m) (count_of m) (bits_of m) (rest_of m) ≡ true
  pub agree : agree_sent (slots_of (type_of m) (count_of m) (bits_of m)) (optional_of m) ≡ true
  pub late : late_refusal (type_of m) (count_of m) (bits_of m) (layout_of (type_of m) (count_of m) (bits_of m) (optional_of m)) ≡ 0

in_stages : (b : Bool) (h x : ℕ) → eqb h 0 ≡ b → cond b x h ≡ 0 → (h ≡ 0) × (x ≡ 0)
in_stages true h x e z = (eqb-true h 0 e, z)
in_stages false h x e z = absurd (eqb-false h 0 e z)

pub good : (m : List ℕ) → read_refusal m ≡ 0 → Good m
unfolding read_refusal body_refusal head_refusal block_refusal optional_of
good m z =
    let st = in_stages (eqb (head_refusal m) 0) (head_refusal m) _ refl z in
    let bl = block_refusal (total_of m) (type_of m) (count_of m) (bits_of m) (fixed_of m) (rest_of m) in
    let sb = in_stages (eqb bl 0) bl _ refl st.1 in
    let p4 = passed (not (of_member (type_of m) || of_venue (type_of m))) _ _ st.0 in
    let p5 = passed (not (unit_good (type_of m) (unit_of m) (number_of m))) _ _ p4.1 in
    let p6 = passed_told (leb (length m) (count_at (type_of m))) _ _ _ p5.1 in
    let p7 = passed_told (ltb (most_of (type_of m)) (count_of m)) _ _ _ p6.1 in
    let p6' = passed_told (ltb (length m) (count_at (type_of m) + 1 + count_of m)) _ _ _ p7.1 in
    let ss = slots_of (type_of m) (count_of m) (bits_of m) in
    let p8 = passed_told (any_bad ss) _ _ _ sb.0 in
    let p9 = passed_told (not (has_required (type_of m) (count_of m) (bits_of m))) _ _ _ p8.1 in
    let pt = passed_told (not (eqb (middle_of m + sum takes ss) (length (rest_of m)))) _ _ _ p9.1 in
    let p10 = passed_told (not (fixed_good (type_of m) (fixed_of m))) _ _ _ pt.1 in
    let pm = passed_told (not (middle_good (type_of m) (count_of m) (bits_of m) (rest_of m))) _ _ _ p10.1 in
    let p10' = passed_told (not (agree_sent ss (drop (middle_of m) (rest_of m)))) _ _ _ pm.1 in
    let n : middle_of m + sum takes ss ≡ length (rest_of m) = eqb-true _ _ (not-false _ pt.0) in
    record {
      known = not-false _ p4.0;
      unit = not-false _ p5.0;
      count = ltb-false _ _ p7.0;
      there = ltb-false _ _ p6'.0;
      listed = p8.0;
      required = not-false _ p9.0;
      middle-there = omega (arith, n);
      total = let d : length (drop (middle_of m) (rest_of m)) ≡ length (rest_of m) - middle_of m = length-drop (middle_of m) (rest_of m) in omega (arith, n, d);
      fixed = not-false _ p10.0;
      middle = not-false _ pm.0;
      agree = not-false _ p10'.0;
      late = sb.1;
    }

-- 02, request 2: an unsequenced message that is read has unit 0 and number 0
pub unsequenced_has_none : (m : List ℕ) → read_refusal m ≡ 0 → unsequenced (type_of m) ≡ true → (unit_of m ≡ 0) × (number_of m ≡ 0)
unfolding unit_good
unsequenced_has_none m z u =
    let g : unit_good (type_of m) (unit_of m) (number_of m) ≡ true = (good m z).unit in
    let k = unsequenced_types (λ (t : ℕ). of_member t ≡ false) refl refl refl (type_of m) u in
    let p = both_true (eqb (unit_of m) 0) (eqb (number_of m) 0) (rw (k, u) at g) in
    (eqb-true (unit_of m) 0 p.0, eqb-true (number_of m) 0 p.1)

-- and a sequenced one a unit of 1 to 32
pub sequenced_has_a_unit : (m : List ℕ) → read_refusal m ≡ 0 → sequenced (type_of m) ≡ true → (1 ≤ unit_of m) × (unit_of m ≤ 32)
unfolding unit_good
sequenced_has_a_unit m z v =
    let g : unit_good (type_of m) (unit_of m) (number_of m) ≡ true = (good m z).unit in
    let k = sequenced_types (λ (t : ℕ). (of_member t ≡ false) × (unsequenced t ≡ false)) (refl, refl) (refl, refl) (type_of m) v in
    let p = both_true (leb 1 (unit_of m)) (leb (unit_of m) 32) (rw (k.0, k.1) at g) in
    (leb-true 1 (unit_of m) p.0, leb-true (unit_of m) 32 p.1)

-- and what is so is read
pub is_read : (m : List ℕ) → Good m → read_refusal m ≡ 0
unfolding read_refusal body_refusal head_refusal block_refusal optional_of
is_read m g =
    let d : length (drop (middle_of m) (rest_of m)) ≡ length (rest_of m) - middle_of m = length-drop (middle_of m) (rest_of m) in
    rw (
      g.known,
      g.unit,
      lt-leb (length m) (count_at (type_of m)) (omega (arith, g.there)),
      le-ltb (most_of (type_of m)) (count_of m) g.count,
      le-ltb (length m) (count_at (type_of m) + 1 + count_of m) g.there,
      g.listed,
      g.required,
      eq-eqb (middle_of m + sum takes (slots_of (type_of m) (count_of m) (bits_of m))) (length (rest_of m)) (omega (arith, g.total, g.middle-there, d)),
      g.fixed,
      g.middle,
      g.agree,
    )
    g.late

-- ---- writing

-- what holds of a record that is written
pub record Fit (r : Record) (room : ℕ) : Type 0 where
  pub known : (of_member r.message || of_venue r.message) ≡ true
  pub unit : unit_good r.message r.unit r.number ≡ true
  pub count : r.count ≤ most_of r.message
  pub listed : any_bad (write_slots r) ≡ false
  pub required : has_required r.message r.count r.bits ≡ true
  pub fixed : fixed_good r.message r.fixed ≡ true
  pub middle : middle_good r.message r.count r.bits (write_rest r) ≡ true
  pub agree : agree_held (write_slots r) r.slots ≡ true
  pub late : late_refusal r.message r.count r.bits r.slots ≡ 0
  pub zero-fixed : all_nul (drop (write_middle r) (write_rest r)) ≡ true
  pub zero_bits : all_nul (drop r.count r.bits) ≡ true
  pub zero_slots : zero_elsewhere (write_slots r) r.slots ≡ true
  pub has_room : size_of r ≤ room

passed_late : (b : Bool) (l x : ℕ) → eqb l 0 ≡ b → cond (not b) l x ≡ 0 → (l ≡ 0) × (x ≡ 0)
passed_late true l x e z = (eqb-true l 0 e, z)
passed_late false l x e z = absurd (eqb-false l 0 e z)

pub fit : (r : Record) (room : ℕ) → write_refusal r room ≡ 0 → Fit r room
unfolding write_refusal zero_unused
fit r room z =
    let p4 = passed (not (of_member r.message || of_venue r.message)) _ _ z in
    let p5 = passed (not (unit_good r.message r.unit r.number)) _ _ p4.1 in
    let p7 = passed_told (ltb (most_of r.message) r.count) _ _ _ p5.1 in
    let p8 = passed_told (any_bad (write_slots r)) _ _ _ p7.1 in
    let p9 = passed_told (not (has_required r.message r.count r.bits)) _ _ _ p8.1 in
    let p10 = passed_told (not (fixed_good r.message r.fixed)) _ _ _ p9.1 in
    let pm = passed_told (not (middle_good r.message r.count r.bits (write_rest r))) _ _ _ p10.1 in
    let p10' = passed_told (not (agree_held (write_slots r) r.slots)) _ _ _ pm.1 in
    let late = late_refusal r.message r.count r.bits r.slots in
    let pl = passed_late (eqb late 0) late _ refl p10'.1 in
    let p12 = passed (not (zero_unused r)) _ _ pl.1 in
    let p13 = passed (ltb room (size_of r)) _ _ p12.1 in
    let a = both_true (all_nul (drop (write_middle r) (write_rest r))) _ (not-false _ p12.0) in
    let b = both_true (all_nul (drop r.count r.bits)) _ a.1 in
    record {
      known = not-false _ p4.0;
      unit = not-false _ p5.0;
      count = ltb-false _ _ p7.0;
      listed = p8.0;
      required = not-false _ p9.0;
      fixed = not-false _ p10.0;
      middle = not-false _ pm.0;
      agree = not-false _ p10'.0;
      late = pl.0;
      zero-fixed = a.0;
      zero_bits = b.0;
      zero_slots = b.1;
      has_room = ltb-false _ _ p13.0;
    }

-- and what is so is written
pub is_written : (r : Record) (room : ℕ) → Fit r room → write_refusal r room ≡ 0
unfolding write_refusal zero_unused
is_written r room f =
    rw (
      f.known,
      f.unit,
      le-ltb (most_of r.message) r.count f.count,
      f.listed,
      f.required,
      f.fixed,
      f.middle,
      f.agree,
      eq-eqb (late_refusal r.message r.count r.bits r.slots) 0 f.late,
      f.zero-fixed,
      f.zero_bits,
      f.zero_slots,
      le-ltb room (size_of r) f.has_room,
    )
