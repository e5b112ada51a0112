-- What is true of the RiskGroupIDs of Purge Orders: what is set is got, the rest of the record stays as it was, and they are those of the message
-- that is read or written. Assumes nothing.
use Rattle.std.specs.Prelude.{◌≡◌, refl, ◌⊎◌, Bool, true, false, ◌&&◌, List, ◌++◌, ℕ, ◌+◌, ◌-◌, ◌*◌, ◌≤◌, ◌<◌, leb, ltb, eqb, get_or, take, drop, Option, None, Some, unwrap_or}
use Rattle.std.proofs.Common.{sym, ap₂, ◌∙◌, ⊎_elim, inl, inr, take_at, length-take-le, get_or-drop}
use Rattle.std.proofs.Math.Path.{ap}
use Rattle.std.proofs.Math.Bool.{cond}
use native.Mathlib.Omega.{arith}
use Rattle.std.proofs.Math.ListN.{length, length-drop}
use Rattle.std.proofs.Math.Seq.{drop_at}
use borrow.Author.Tests.{eq-eqb, lt-ltb, le-ltb, leb-true}
use Rattle.numbers.specs.Numbers.{number_at, bytes_of}
use Rattle.numbers.specs.NumberLaws.{patched-length, patched-after}
use Rattle.kinds.specs.Kinds.{all_nul}
use Rattle.block.specs.Slots.{zeros}
use Rattle.block.specs.SlotLaws.{both_true, zeros_are_nul}
use Rattle.block.specs.Loops.{nul_at}
use Rattle.block.specs.Sizes.{fixed_end, fixed_size}
use Rattle.orders.specs.Shapes.{count_at}
use Rattle.orders.specs.Middle.{risk_groups, middle_size, middle_good}
use Rattle.orders.specs.Orders.{rest_of, middle_of, fixed_of, read_refusal, record_of, write_rest, write_middle, zero_unused}
use Rattle.orders.proofs.OrderLaws.{good, in_purge_orders}
use Rattle.orders.specs.declared.Record.{Record}
use Rattle.order_fields.specs.Named as named
use Rattle.order_fields.specs.Named.{choose, larger, number_in, number_fixed, risk_group_count, has_risk_group, risk_group_of, fixing_of, setting_of, with_risk_group, risk_group_setting}
use Rattle.order_fields.specs.NamedLaws.{larger_reaches}
use Rattle.order_fields.specs.LocalLaws.{number_of-part, number_of-front, one_byte, number_local}
use Rattle.order_fields.specs.FixedLaws.{SameElsewhere, fixing_keeps_the_rest, Part, fixed-part, number_fixed_is_got, other_fixed_field_kept}
use Rattle.order_fields.specs.SelectionLaws.{larger-keeps, and-false, nul_past}
use Rattle.order_fields.specs.KeptLaws.{one-first, setting_keeps_the_rest}

-- ---- a RiskGroupID is what stands at its place, where there is one

-- how many there are, where the field is known
counted : (r : Record) {n : ℕ} → number_fixed 1 0x47 1 r ≡ Some n → risk_group_count r ≡ n
counted r e = ap (λ (c : Option ℕ). unwrap_or c 0) e

has_group : (i : ℕ) (r : Record) → i < 10 → i < risk_group_count r → has_risk_group i r ≡ true
has_group i r h l = ap₂ (λ (a b : Bool). a && b) (lt-ltb i 10 h) (lt-ltb i (risk_group_count r) l)

pub at_its_place : (i : ℕ) (r : Record) → i < 10 → i < risk_group_count r → risk_group_of i r ≡ number_fixed 2 0x47 (2 + 2 * i) r
unfolding risk_group_of
at_its_place i r h l = ap (λ (b : Bool). cond b (number_fixed 2 0x47 (2 + 2 * i) r) None) (has_group i r h l)

pub none_past_count : (i : ℕ) (r : Record) → risk_group_count r ≤ i → risk_group_of i r ≡ None
unfolding risk_group_of
none_past_count i r h =
    let e : has_risk_group i r ≡ false = ap (λ (b : Bool). ltb i 10 && b) (le-ltb i (risk_group_count r) h) ∙ and-false (ltb i 10) in
    ap (λ (b : Bool). cond b (number_fixed 2 0x47 (2 + 2 * i) r) None) e

-- of two records that have the i-th it is the same, where its place holds the same
same-group : (i : ℕ) (o r : Record) → i < risk_group_count o → i < risk_group_count r → number_fixed 2 0x47 (2 + 2 * i) o ≡ number_fixed 2 0x47 (2 + 2 * i) r
    → risk_group_of i o ≡ risk_group_of i r
unfolding risk_group_of
same-group i o r l k e =
    let h : has_risk_group i o ≡ has_risk_group i r = ap (λ (b : Bool). ltb i 10 && b) (lt-ltb i _ l ∙ sym (lt-ltb i _ k)) in
    ap₂ (λ (b : Bool) (x : Option ℕ). cond b x None) h e

-- ---- they are those of the message that is written, and of the one that is read

module _ (r : Record) (e : r.message ≡ 0x47) where
  -- a field of the fixed part is there
  there : (at : ℕ) → named.fixed_of 0x47 at r ≡ Some at
  unfolding named.fixed_of
  there at = ap (λ (b : Bool). cond b (Some at) None) (eq-eqb r.message 0x47 e)

  in_rest : (n j : ℕ) → number_at n (1 + j) r.fixed ≡ number_at n j (write_rest r)
  unfolding write_rest
  in_rest n j =
      let k : count_at r.message - 10 ≡ 1 = omega (arith, in_purge_orders r.message e) in
      number_of-part n j 1 r.fixed ∙ ap (λ (m : ℕ). number_at n j (drop m r.fixed)) (sym k)

  -- RiskGroupIDCnt
  pub count_as_written : number_fixed 1 0x47 1 r ≡ Some (risk_groups (write_rest r))
  count_as_written =
      ap (λ (f : Option ℕ). number_in 1 f r.fixed) (there 1) ∙ ap (λ (x : ℕ). Some x) (in_rest 1 0 ∙ one_byte 0 (write_rest r))

  -- the RiskGroupIDs, from the byte after it on
  pub group_as_written : (i : ℕ) → i < 10 → i < risk_groups (write_rest r) → risk_group_of i r ≡ Some (number_at 2 (1 + 2 * i) (write_rest r))
  group_as_written i h l =
      let q : 2 + 2 * i ≡ 1 + (1 + 2 * i) = omega arith in
      at_its_place i r h (omega (arith, l, counted r count_as_written))
      ∙ ap (λ (f : Option ℕ). number_in 2 f r.fixed) (there (2 + 2 * i))
      ∙ ap (λ (x : ℕ). Some x) (ap (λ (at : ℕ). number_at 2 at r.fixed) q ∙ in_rest 2 (1 + 2 * i))

module _ (m : List ℕ) (z : read_refusal m ≡ 0) (e : (record_of m).message ≡ 0x47) where
  middle_is : middle_of m ≡ 1 + 2 * risk_groups (rest_of m)
  unfolding record_of middle_size
  middle_is = ap (λ (b : Bool). cond b (1 + 2 * risk_groups (rest_of m)) 0) (eq-eqb (record_of m).message 0x47 e)

  at_most_ten : risk_groups (rest_of m) ≤ 10
  unfolding record_of middle_good
  at_most_ten = leb-true (risk_groups (rest_of m)) 10 (sym (ap (λ (b : Bool). cond b (leb (risk_groups (rest_of m)) 10) true) (eq-eqb (record_of m).message 0x47 e)) ∙ (good m z).middle)

  -- what the record's fixed part holds after the message's: the middle, and zeros
  after-fixed : write_rest (record_of m) ≡ take (middle_of m) (rest_of m) ++ zeros (fixed_end - count_at (record_of m).message - middle_of m)
  unfolding record_of write_rest fixed_of
  after-fixed =
      let w = count_at (record_of m).message - 10 in
      let d : length (drop 10 m) ≡ length m - 10 = length-drop 10 m in
      drop_at (take w (drop 10 m)) _ w (length-take-le w (drop 10 m) (omega (arith, d, (good m z).there)))

  rest_as_read : (n j : ℕ) → j + n ≤ middle_of m → number_at n j (write_rest (record_of m)) ≡ number_at n j (rest_of m)
  rest_as_read n j h =
      let w = middle_of m in
      let back = zeros (fixed_end - count_at (record_of m).message - w) in
      ap (number_at n j) after-fixed
      ∙ number_of-front n j w (take w (rest_of m) ++ back) h
      ∙ ap (number_at n j) (take_at (take w (rest_of m)) back w (length-take-le w (rest_of m) (good m z).middle-there))
      ∙ sym (number_of-front n j w (rest_of m) h)

  count-there : risk_groups (write_rest (record_of m)) ≡ risk_groups (rest_of m)
  count-there = sym (one_byte 0 (write_rest (record_of m))) ∙ rest_as_read 1 0 (omega (arith, middle_is)) ∙ one_byte 0 (rest_of m)

  pub count_as_read : number_fixed 1 0x47 1 (record_of m) ≡ Some (risk_groups (rest_of m))
  count_as_read = count_as_written (record_of m) e ∙ ap (λ (x : ℕ). Some x) count-there

  pub group_as_read : (i : ℕ) → i < risk_groups (rest_of m) → risk_group_of i (record_of m) ≡ Some (number_at 2 (1 + 2 * i) (rest_of m))
  group_as_read i l =
      group_as_written (record_of m) e i (omega (arith, l, at_most_ten)) (omega (arith, l, count-there))
      ∙ ap (λ (x : ℕ). Some x) (rest_as_read 2 (1 + 2 * i) (omega (arith, l, middle_is)))

-- ---- what is set is got

-- a record of Purge Orders, its fixed part whole and RiskGroupIDCnt a byte
pub record Purge (r : Record) : Type 0 where
  pub of_type : r.message ≡ 0x47
  pub whole : length r.fixed ≡ fixed_size
  pub count_is_byte : risk_group_count r < 256

module _ {r : Record} (p : Purge r) (i id : ℕ) (h : i < 10) where
  abbrev cnt : ℕ
  cnt = risk_group_count r

  -- the record in which it is set, the count as it was
  abbrev with_id : Record
  with_id = fixing_of 0x47 (2 + 2 * i) (bytes_of 2 id) r

  is_set : risk_group_setting i id r ≡ with_risk_group i id r
  unfolding risk_group_setting
  is_set = ap (λ (b : Bool). choose b (with_risk_group i id r) r) (lt-ltb i 10 h)

  group-part : Part 0x47 (2 + 2 * i) 2 r
  group-part = record { of_type = p.of_type; whole = p.whole; fits = omega (arith, h) }

  count-part : Part 0x47 1 1 with_id
  count-part = record {
    of_type = (fixing_keeps_the_rest 0x47 (2 + 2 * i) (bytes_of 2 id) r).same_message ∙ p.of_type;
    whole = ap length (fixed-part group-part (bytes_of 2 id)) ∙ patched-length r.fixed (2 + 2 * i) (bytes_of 2 id) (omega (arith, h, p.whole)) ∙ p.whole;
    fits = omega arith;
  }

  larger_small : larger cnt (i + 1) < 256
  larger_small = by (leb (i + 1) cnt)
    where
      by : (b : Bool) → cond b cnt (i + 1) < 256
      by true = p.count_is_byte
      by false = omega (arith, h)

  -- RiskGroupIDCnt has it
  pub count_is_raised : number_fixed 1 0x47 1 (risk_group_setting i id r) ≡ Some (larger cnt (i + 1))
  count_is_raised = ap (number_fixed 1 0x47 1) is_set ∙ number_fixed_is_got count-part (larger cnt (i + 1)) larger_small

  -- the count's place is none of the groups'
  past-count : (j : ℕ) → number_fixed 2 0x47 (2 + 2 * j) (risk_group_setting i id r) ≡ number_fixed 2 0x47 (2 + 2 * j) with_id
  past-count j =
      ap (number_fixed 2 0x47 (2 + 2 * j)) is_set
      ∙ other_fixed_field_kept count-part (bytes_of 1 (larger cnt (i + 1))) refl (2 + 2 * j) 2 (inl (omega arith)) (number_local 2 (2 + 2 * j))

  reached : i < risk_group_count (risk_group_setting i id r)
  reached = omega (arith, counted (risk_group_setting i id r) count_is_raised, larger_reaches cnt (i + 1))

  pub group_set_is_got : id < 65536 → risk_group_of i (risk_group_setting i id r) ≡ Some id
  group_set_is_got small = at_its_place i (risk_group_setting i id r) h reached ∙ past-count i ∙ number_fixed_is_got group-part id small

  -- every other stays what it was
  pub other_group_kept : (j : ℕ) → (i ≡ j → ⊥) → j < cnt → risk_group_of j (risk_group_setting i id r) ≡ risk_group_of j r
  other_group_kept j other l =
      let k : j < risk_group_count (risk_group_setting i id r) = omega (arith, l, counted (risk_group_setting i id r) count_is_raised, larger-keeps cnt (i + 1)) in
      let apart : (2 + 2 * i + 2 ≤ 2 + 2 * j) ⊎ (2 + 2 * j + 2 ≤ 2 + 2 * i) =
      ⊎_elim (λ (x : i < j). inl (omega (arith, x))) (λ (x : j < i). inr (omega (arith, x))) (one-first i j other) in
      same-group j (risk_group_setting i id r) r k l (past-count j ∙ other_fixed_field_kept group-part (bytes_of 2 id) refl (2 + 2 * j) 2 apart (number_local 2 (2 + 2 * j)))

  -- the fixed part, past the place and past the count
  pub beyond_kept : (j : ℕ) → 2 + 2 * i + 2 ≤ j → get_or (risk_group_setting i id r).fixed j 0 ≡ get_or r.fixed j 0
  beyond_kept j l =
      let b = bytes_of 1 (larger cnt (i + 1)) in
      ap (λ (o : Record). get_or o.fixed j 0) is_set
      ∙ ap (λ (s : List ℕ). get_or s j 0) (fixed-part count-part b)
      ∙ patched-after with_id.fixed 1 b (omega (arith, count-part.whole)) j (omega (arith, l))
      ∙ ap (λ (s : List ℕ). get_or s j 0) (fixed-part group-part (bytes_of 2 id))
      ∙ patched-after r.fixed (2 + 2 * i) (bytes_of 2 id) (omega (arith, h, p.whole)) j l

-- RiskGroupIDCnt is set: what it still has stays
pub group_kept_by_count : {r : Record} → Purge r → (v : ℕ) → v < 256 → (j : ℕ) → j < v → j < risk_group_count r
    → risk_group_of j (fixing_of 0x47 1 (bytes_of 1 v) r) ≡ risk_group_of j r
group_kept_by_count {r} p v small j l k =
    let i : Part 0x47 1 1 r = record { of_type = p.of_type; whole = p.whole; fits = omega arith } in
    let o = fixing_of 0x47 1 (bytes_of 1 v) r in
    let n : risk_group_count o ≡ v = counted o (number_fixed_is_got i v small) in
    same-group j o r (omega (arith, n, l)) k (other_fixed_field_kept i (bytes_of 1 v) refl (2 + 2 * j) 2 (inl (omega arith)) (number_local 2 (2 + 2 * j)))

-- ---- the places past the last RiskGroupID: the writer demands zero there, the reader gives it, and setting one keeps it

abbrev pub PastZero : Record → Type 0
PastZero r = (j : ℕ) → 2 + 2 * risk_group_count r ≤ j → get_or r.fixed j 0 ≡ 0

-- by what its fixed part holds after the message's
past_by_rest : (r : Record) → r.message ≡ 0x47 → all_nul (drop (1 + 2 * risk_groups (write_rest r)) (write_rest r)) ≡ true → PastZero r
unfolding write_rest
past_by_rest r e h j l =
    let n : risk_group_count r ≡ risk_groups (write_rest r) = counted r (count_as_written r e) in
    let k : count_at r.message - 10 + (j - 1) ≡ j = omega (arith, in_purge_orders r.message e, l) in
    ap (λ (m : ℕ). get_or r.fixed m 0) (sym k)
    ∙ sym (get_or-drop (count_at r.message - 10) r.fixed (j - 1) 0)
    ∙ nul_past (write_rest r) (1 + 2 * risk_groups (write_rest r)) h (j - 1) (omega (arith, n, l))

-- a record that is not refused by 12
pub past_are_zero : (r : Record) → r.message ≡ 0x47 → zero_unused r ≡ true → PastZero r
unfolding zero_unused middle_size
past_are_zero r e h =
    let w : 1 + 2 * risk_groups (write_rest r) ≡ write_middle r = sym (ap (λ (b : Bool). cond b (1 + 2 * risk_groups (write_rest r)) 0) (eq-eqb r.message 0x47 e)) in
    past_by_rest r e (ap (λ (n : ℕ). all_nul (drop n (write_rest r))) w ∙ (both_true (all_nul (drop (write_middle r) (write_rest r))) _ h).0)

-- the record of a message that is read
pub past_as_read : (m : List ℕ) → read_refusal m ≡ 0 → (record_of m).message ≡ 0x47 → PastZero (record_of m)
past_as_read m z e =
    let w = 1 + 2 * risk_groups (rest_of m) in
    let back = zeros (fixed_end - count_at (record_of m).message - middle_of m) in
    let n : w ≤ length (rest_of m) = omega (arith, middle_is m z e, (good m z).middle-there) in
    past_by_rest (record_of m) e
    (ap₂ (λ (x : ℕ) (s : List ℕ). all_nul (drop (1 + 2 * x) s)) (count-there m z e) (after-fixed m z e ∙ ap (λ (x : ℕ). take x (rest_of m) ++ back) (middle_is m z e))
    ∙ ap all_nul (drop_at (take w (rest_of m)) back w (length-take-le w (rest_of m) n))
    ∙ zeros_are_nul (fixed_end - count_at (record_of m).message - middle_of m))

-- a record whose fixed part is all zero
pub past_at_first : (r : Record) → r.fixed ≡ zeros fixed_size → PastZero r
past_at_first r e j l = ap (λ (s : List ℕ). get_or s j 0) e ∙ nul_at (zeros fixed_size) (zeros_are_nul fixed_size) j

-- a record in which one is set
pub past_stay_zero : {r : Record} → Purge r → (i id : ℕ) → i < 10 → PastZero r → PastZero (risk_group_setting i id r)
past_stay_zero {r} p i id h zero j l =
    let n = risk_group_count r in
    let c : risk_group_count (risk_group_setting i id r) ≡ larger n (i + 1) = counted (risk_group_setting i id r) (count_is_raised p i id h) in
    beyond_kept p i id h j (omega (arith, l, c, larger_reaches n (i + 1))) ∙ zero j (omega (arith, l, c, larger-keeps n (i + 1)))

-- ---- the eleventh and later ones change nothing

pub over_nine_changes_nothing : (i id : ℕ) (r : Record) → 10 ≤ i → risk_group_setting i id r ≡ r
unfolding risk_group_setting
over_nine_changes_nothing i id r h = ap (λ (b : Bool). choose b (with_risk_group i id r) r) (le-ltb i 10 h)

-- ---- and the rest of the record, of any type

same_twice : {o s r : Record} → SameElsewhere o s → SameElsewhere s r → SameElsewhere o r
same_twice a b = record {
  same_message = a.same_message ∙ b.same_message;
  same-unit = a.same-unit ∙ b.same-unit;
  same_number = a.same_number ∙ b.same_number;
  same_count = a.same_count ∙ b.same_count;
  same_bits = a.same_bits ∙ b.same_bits;
  same_slots = a.same_slots ∙ b.same_slots;
}

-- so every getter of an optional field answers the same, by same_optional_fields
pub group_keeps_the_rest : (i id : ℕ) (r : Record) → SameElsewhere (risk_group_setting i id r) r
unfolding risk_group_setting
group_keeps_the_rest i id r = by (ltb i 10)
  where
    by : (b : Bool) → SameElsewhere (choose b (with_risk_group i id r) r) r
    by true = same_twice (fixing_keeps_the_rest 0x47 1 _ _) (fixing_keeps_the_rest 0x47 (2 + 2 * i) (bytes_of 2 id) r)
    by false = record { same_message = refl; same-unit = refl; same_number = refl; same_count = refl; same_bits = refl; same_slots = refl }

-- an optional field is set: every RiskGroupID stays
pub groups_kept : (message byte bit : ℕ) (bytes : List ℕ) (r : Record) (i : ℕ) → risk_group_of i (setting_of message byte bit bytes r) ≡ risk_group_of i r
unfolding risk_group_of named.fixed_of
groups_kept message byte bit bytes r i =
    let s = setting_keeps_the_rest message byte bit bytes r in
    let place : ℕ → ℕ → Option ℕ = λ m at. cond (eqb m 0x47) (Some at) None in
    ap₂ (λ (m : ℕ) (f : List ℕ). cond (ltb i 10 && ltb i (unwrap_or (number_in 1 (place m 1) f) 0)) (number_in 2 (place m (2 + 2 * i)) f) None) s.same_message s.same-fixed
