-- Nothing is refused that should pass: a reader and a writer that refused all would agree with each other, and both round trips would hold.
--     a_valid_record_is_taken    every order's record of which holds what document 01 asks is taken by the writer, where there is room for its message,
--                                and its message is taken by the reader, as the same record
--     every_choice_is_taken      so for every type, every count of bitfields, every choice of listed bits with the required ones among them, and every
--                                good fixed part, in Purge Orders with any RiskGroupIDs: the record with these bits and fields that are blank or zero
--                                where they may be
-- That there are such choices of each type: SomeChoice.antt.
-- Assumes nothing.
use Rattle.std.specs.Prelude.{◌≡◌, Bool, ◌&&◌, ◌||◌, ℕ, zero, suc, ◌+◌, ◌*◌, ◌-◌, ◌/◌, ◌%◌, ◌≤◌, ◌<◌, ltb, length, drop}
use Rattle.std.proofs.Math.Path.{refl, sym, ap, ap₂}
use Rattle.std.proofs.Common.{◌∙◌, subst, arith, length-drop, length-take-le, drop-drop, take-take}
use Rattle.std.proofs.Math.Bool.{true, false, cond}
use mathlib.Core.List.{List, [], ◌∷◌, ◌++◌, append-nil}
use Rattle.std.proofs.Math.Dec.{leb, eqb}
use Rattle.std.proofs.Math.ListN.{get_or, take, get_or-eq_default}
use Rattle.std.proofs.Math.Seq.{get_or-take, get_or-drop}
use borrow.Author.Tests.{eq-eqb, eqb-true, le-leb, ltb-true, ltb-false}
use Rattle.kinds.specs.Kinds.{all_nul, agrees_of}
use Rattle.numbers.specs.Numbers.{number_at, bytes_of, patched}
use Rattle.wire.specs.HeaderLaws.{Bytes}
use Rattle.dictionary.specs.Dictionary.{is_new_order}
use Rattle.block.specs.Slots.{takes, sum, agree_held, zero_elsewhere}
use Rattle.block.specs.SlotLaws.{takes-below, both_true}
use Rattle.block.specs.Places.{selected_at, entry_at, slots_from, slots_of, new_order_has, modify_order_has, purge_orders_has, has_required}
use Rattle.block.specs.FieldPlaces.{widths_before, AllAgree, Unselected}
use Rattle.block.proofs.FieldPlaceLaws.{takes_all, widths_same, nul_rest, no_bad_slot, selected_agree, zero_where_unset}
use Rattle.block.proofs.Dictionaries.{before-none, dictionary_placed, widths_fit, field_fits}
use Rattle.block.specs.Sizes.{fixed_size, fixed_end, most_bitfields, all_places, layout_size, bits_place, record_size}
use Rattle.orders.specs.Shapes.{of_member, sequenced, unsequenced, of_venue, count_at, unit_good, fixed_good}
use Rattle.orders.specs.Middle.{risk_groups, middle_size, middle_good}
use Rattle.orders.specs.Orders.{write_slots, write_rest, size_of}
use Rattle.orders.proofs.OrderLaws.{either, count_bounds, most_bound, in_purge_orders, middle-fits, Fit, is_written}
use Rattle.orders.specs.declared.Record.{Record}
use Rattle.orders.proofs.RoundTrip.{Sound}
use Rattle.order_records.specs.Records.{record_bytes, record_at}
use Rattle.order_records.specs.RecordTrip.{record_length, record_again}
use Rattle.messages.specs.Messages.{carries, record_size_of, own_write, write_call, held_in}
use Rattle.messages.proofs.MessageLaws.{order_size, own_write_lem}
use Rattle.messages.proofs.RoundTrip.{read_again}
use Rattle.messages.specs.OrderPlaces.{is_order, count_in, layout_in, order_most, set_in_record}
use Rattle.messages.proofs.FieldPlace.{set_same, selected_small, by_type, not_session}
use Rattle.messages.specs.ByteLaws.{bytes-front, bytes_append, number_bytes}
use Rattle.messages.specs.Taken.{TakenBothWays}
use Rattle.messages.specs.ValidOrders.{order_of, UnitFits, Required, NeedsMet, between_in, Valid, message_size, between_of, GoodFixed, GoodBits, chosen_fields, chosen_record}
use Rattle.messages.proofs.ChosenFields.{not_late, fields_long, fields-bytes, fields_needs, fields-zero, fields_agree}

-- ---- the types

-- what holds of each type holds of every order of a direction
pub by_direction : (direction message : ℕ) → order_of direction message ≡ true → (P : ℕ → ℕ → Type 0) → P 0 0x38 → P 0 0x39 → P 0 0x3A → P 0 0x47 → P 1 0x25 → P 1 0x2C → P 1 0x26 → P 1 0x29
    → P 1 0x2B → P 2 0xB8 → P 2 0x39 → P 2 0x3A → P 2 0x47 → P direction message
by_direction direction message o P a b h i c d e f g j k l m =
    either (eqb direction 0 && (eqb message 0x38 || (eqb message 0x39 || (eqb message 0x3A || eqb message 0x47)))) (of_market_lem 0 0x38 a b h i)
    (either (eqb direction 1 && (eqb message 0x25 || (eqb message 0x2C || (eqb message 0x26 || (eqb message 0x29 || eqb message 0x2B)))))
    (λ q.
    let p = both_true (eqb direction 1) _ q in
    either (eqb message 0x25) (at 1 0x25 c p.0)
    (either (eqb message 0x2C) (at 1 0x2C d p.0)
    (either (eqb message 0x26) (at 1 0x26 e p.0)
    (either (eqb message 0x29) (at 1 0x29 f p.0)
    (at 1 0x2B g p.0)))) p.1)
    (of_market_lem 2 0xB8 j k l m))
    o
  where
    at : (n x : ℕ) → P n x → eqb direction n ≡ true → eqb message x ≡ true → P direction message
    at n x h e f = subst (λ (i : ℕ). P i message) (sym (eqb-true direction n e)) (subst (P n) (sym (eqb-true message x f)) h)

    -- a member's, of which the first is the market's New Order
    of_market_lem : (n new : ℕ) → P n new → P n 0x39 → P n 0x3A → P n 0x47 → (eqb direction n && (eqb message new || (eqb message 0x39 || (eqb message 0x3A || eqb message 0x47)))) ≡ true → P direction message
    of_market_lem n new x y z w q =
        let p = both_true (eqb direction n) _ q in
        either (eqb message new) (at n new x p.0)
        (either (eqb message 0x39) (at n 0x39 y p.0)
        (either (eqb message 0x3A) (at n 0x3A z p.0)
        (at n 0x47 w p.0))) p.1

-- the direction has the type, the type is known, and it takes the units and numbers that fit it
pub record Known (direction message : ℕ) : Type 0 where
  pub is_order_lem : is_order message ≡ true
  known : (of_member message || of_venue message) ≡ true
  carried : carries direction message ≡ true
  unit-taken : (unit number : ℕ) → UnitFits message unit number → unit_good message unit number ≡ true

pub known_type : (direction message : ℕ) → order_of direction message ≡ true → Known direction message
unfolding carries unit_good
known_type direction message o =
    by_direction direction message o Known (member 0 0x38 refl refl refl refl (λ u n. refl)) (member 0 0x39 refl refl refl refl (λ u n. refl))
    (member 0 0x3A refl refl refl refl (λ u n. refl)) (member 0 0x47 refl refl refl refl (λ u n. refl))
    (counted 0x25 refl refl refl refl (λ u n. refl)) (counted 0x2C refl refl refl refl (λ u n. refl))
    (aside 0x26 refl refl refl refl (λ u n. refl)) (aside 0x29 refl refl refl refl (λ u n. refl)) (aside 0x2B refl refl refl refl (λ u n. refl))
    (member 2 0xB8 refl refl refl refl (λ u n. refl)) (member 2 0x39 refl refl refl refl (λ u n. refl)) (member 2 0x3A refl refl refl refl (λ u n. refl)) (member 2 0x47 refl refl refl refl (λ u n. refl))
  where
    member : (d x : ℕ) → is_order x ≡ true → (of_member x || of_venue x) ≡ true → carries d x ≡ true → of_member x ≡ true → ((u n : ℕ) → unit_good x u n ≡ eqb u 0) → Known d x
    member d x i k c m g = record { is_order_lem = i; known = k; carried = c; unit-taken = λ u n f. g u n ∙ eq-eqb u 0 (f.of_member_lem m) }

    counted : (x : ℕ) → is_order x ≡ true → (of_member x || of_venue x) ≡ true → carries 1 x ≡ true → sequenced x ≡ true → ((u n : ℕ) → unit_good x u n ≡ (leb 1 u && leb u 32)) → Known 1 x
    counted x i k c m g = record {
      is_order_lem = i;
      known = k;
      carried = c;
      unit-taken = λ u n f. g u n ∙ ap₂ (λ (p q : Bool). p && q) (le-leb 1 u (f.at_least m)) (le-leb u 32 (f.at_most m));
    }

    aside : (x : ℕ) → is_order x ≡ true → (of_member x || of_venue x) ≡ true → carries 1 x ≡ true → unsequenced x ≡ true → ((u n : ℕ) → unit_good x u n ≡ (eqb u 0 && eqb n 0)) → Known 1 x
    aside x i k c m g = record {
      is_order_lem = i;
      known = k;
      carried = c;
      unit-taken = λ u n f. g u n ∙ ap₂ (λ (p q : Bool). p && q) (eq-eqb u 0 (f.no_unit m)) (eq-eqb n 0 (f.no_number m));
    }

-- ---- parts of a record

-- a byte of n bytes from place a on is zero where the record's is
part-zero : (n a : ℕ) (r : List ℕ) → a + n ≤ length r → (i : ℕ) → (i < n → get_or r (a + i) 0 ≡ 0) → get_or (take n (drop a r)) i 0 ≡ 0
part-zero n a r l i h = by (ltb i n) refl
  where
    by : (b : Bool) → ltb i n ≡ b → get_or (take n (drop a r)) i 0 ≡ 0
    by true e = get_or-take n (drop a r) i 0 (ltb-true i n e) ∙ get_or-drop a r i 0 ∙ h (ltb-true i n e)
    by false e =
        let d : length (drop a r) ≡ length r - a = length-drop a r in
        let t : length (take n (drop a r)) ≡ n = length-take-le n (drop a r) (omega arith) in
        let g = ltb-false i n e in
        get_or-eq_default (take n (drop a r)) 0 (omega arith)

-- what follows place c of them is zero
zero_from : (n a c : ℕ) (r : List ℕ) → a + n ≤ length r → ((i : ℕ) → a + c ≤ i → i < a + n → get_or r i 0 ≡ 0) → all_nul (drop c (take n (drop a r))) ≡ true
zero_from n a c r l h = nul_rest c (take n (drop a r)) (λ i q. part-zero n a r l i (λ m. h (a + i) (omega arith) (omega arith)))

-- a part of the first n bytes
part_of_front : (w p n : ℕ) (l : List ℕ) → p + w ≤ n → take w (drop p (take n l)) ≡ take w (drop p l)
part_of_front w zero n l h = take-take w n l (omega arith)
part_of_front w (suc p) zero l h = absurd (omega arith)
part_of_front w (suc p) (suc n) [] h = refl
part_of_front w (suc p) (suc n) (x ∷ l) h = part_of_front w p n l (omega arith)

required_set : (message count : ℕ) (bits : List ℕ) → Required message (selected_at count bits) → has_required message count bits ≡ true
unfolding has_required
required_set message count bits q = by (is_new_order message) (eqb message 0x3A) (eqb message 0x47) refl refl refl
  where
    by : (a b c : Bool) → is_new_order message ≡ a → eqb message 0x3A ≡ b → eqb message 0x47 ≡ c
        → cond a (new_order_has count bits) (cond b (modify_order_has count bits) (cond c (purge_orders_has count bits) true)) ≡ true
    by true b c e f g = rw (q.symbol e, q.capacity e, q.price_or_type e)
    by false true c e f g = let o = eqb-true message 0x3A f in rw (q.quantity o, q.new_price_or_type o)
    by false false true e f g = q.instruction (eqb-true message 0x47 g)
    by false false false e f g = refl

-- ---- A VALID RECORD

module _ (direction : ℕ) (r : List ℕ) (long : record_size ≤ length r) (v : Valid direction r) where
  few : get_or r count_in 0 ≤ most_bitfields
  few = omega (arith, v.count, most_bound (get_or r 0 0))

  -- the bits that are set in the record's bytes are those that the writer goes by
  same_set : (k : ℕ) → set_in_record r k ≡ selected_at (get_or r count_in 0) (take most_bitfields (drop (count_in + 1) r)) k
  same_set =
      set_same count_in (get_or r count_in 0) r (take most_bitfields (drop (count_in + 1) r)) refl
      (λ j h. sym (get_or-drop (count_in + 1) r j 0) ∙ sym (get_or-take most_bitfields (drop (count_in + 1) r) j 0 (omega (arith, h, few))))

  slots_zero : (i : ℕ) → Unselected (selected_at (get_or r count_in 0) (take most_bitfields (drop (count_in + 1) r))) (entry_at (get_or r 0 0)) i → get_or (take layout_size (drop layout_in r)) i 0 ≡ 0
  slots_zero i u =
      part-zero layout_size layout_in r long i (λ m. v.zero_elsewhere_lem i m (λ k w p kind e q. u k w p kind (sym (same_set k) ∙ e) q))

  slots_agree : AllAgree (selected_at (get_or r count_in 0) (take most_bitfields (drop (count_in + 1) r))) (entry_at (get_or r 0 0)) (take layout_size (drop layout_in r))
  unfolding entry_at
  slots_agree k w p kind e q =
      ap (λ (l : List ℕ). agrees_of kind l) (part_of_front w p layout_size (drop layout_in r) (field_fits (get_or r 0 0) (k / 8 + 1) (k % 8) q))
      ∙ v.agree k w p kind (same_set k ∙ e) q

  sizes : sum takes (slots_of (get_or r 0 0) (get_or r count_in 0) (take most_bitfields (drop (count_in + 1) r))) ≡ widths_before (set_in_record r) (entry_at (get_or r 0 0)) all_places
  sizes =
      takes_all (selected_at (get_or r count_in 0) (take most_bitfields (drop (count_in + 1) r))) (entry_at (get_or r 0 0)) all_places
      ∙ sym (widths_same (set_in_record r) (selected_at (get_or r count_in 0) (take most_bitfields (drop (count_in + 1) r))) (entry_at (get_or r 0 0)) same_set all_places)

  -- what the record holds between is the middle that the writer goes by, and it is good
  held-rest : List ℕ
  held-rest = drop (count_at (get_or r 0 0) - 10) (take fixed_size (drop 6 r))

  groups_held : get_or r 0 0 ≡ 0x47 → risk_groups held-rest ≡ get_or r 7 0
  unfolding held-rest
  groups_held e =
      let n : count_at (get_or r 0 0) - 10 + 0 ≡ 1 = omega (arith, in_purge_orders (get_or r 0 0) e) in
      get_or-drop (count_at (get_or r 0 0) - 10) (take fixed_size (drop 6 r)) 0 0
      ∙ ap (λ (i : ℕ). get_or (take fixed_size (drop 6 r)) i 0) n
      ∙ get_or-take fixed_size (drop 6 r) 1 0 (omega arith)
      ∙ get_or-drop 6 r 1 0

  middle-held : (count : ℕ) (bits : List ℕ) → middle_size (get_or r 0 0) count bits held-rest ≡ between_in r
  unfolding middle_size between_in
  middle-held count bits = by (eqb (get_or r 0 0) 0x47) refl
    where
      by : (b : Bool) → eqb (get_or r 0 0) 0x47 ≡ b → cond b (1 + 2 * risk_groups held-rest) 0 ≡ cond b (1 + 2 * get_or r 7 0) 0
      by true e = ap (λ (n : ℕ). 1 + 2 * n) (groups_held (eqb-true (get_or r 0 0) 0x47 e))
      by false e = refl

  good_held : (count : ℕ) (bits : List ℕ) → middle_good (get_or r 0 0) count bits held-rest ≡ true
  unfolding middle_good
  good_held count bits = by (eqb (get_or r 0 0) 0x47) refl
    where
      by : (b : Bool) → eqb (get_or r 0 0) 0x47 ≡ b → cond b (leb (risk_groups held-rest) 10) true ≡ true
      by true e = let o = eqb-true (get_or r 0 0) 0x47 e in ap (λ (n : ℕ). leb n 10) (groups_held o) ∙ le-leb (get_or r 7 0) 10 (v.groups o)
      by false e = refl

  between_small : count_at (get_or r 0 0) + between_in r ≤ fixed_end
  between_small = omega (arith, middle-fits (get_or r 0 0) 0 [] held-rest (good_held 0 []), middle-held 0 [])

  unused_zero_lem : all_nul (drop (between_in r) held-rest) ≡ true
  unfolding held-rest
  unused_zero_lem =
      let low = (count_bounds (get_or r 0 0)).low in
      ap all_nul (drop-drop (between_in r) (count_at (get_or r 0 0) - 10) (take fixed_size (drop 6 r)))
      ∙ zero_from fixed_size 6 (count_at (get_or r 0 0) - 10 + between_in r) r (omega (arith, long)) (λ i l m. v.zero_after_fixed i (omega (arith, low, l)) (omega (arith, m)))

  -- the late rules are met in the layout that the writer goes by
  needs_held : NeedsMet (get_or r 0 0) (selected_at (get_or r count_in 0) (take most_bitfields (drop (count_in + 1) r))) (take layout_size (drop layout_in r))
  needs_held =
      let at : (i : ℕ) → i < layout_size → get_or (take layout_size (drop layout_in r)) i 0 ≡ get_or (drop layout_in r) i 0 = λ i h. get_or-take layout_size (drop layout_in r) i 0 h in
      record {
        market-price = λ o h. at 16 (omega arith) ∙ v.needs.market-price o (same_set 3 ∙ h);
        firm = λ o h. sym (same_set 0) ∙ v.needs.firm o (sym (at 4 (omega arith)) ∙ h);
        one_answer = λ o h. sym (same_set 4) ∙ v.needs.one_answer o (sym (at 5 (omega arith)) ∙ h);
        both-answers = λ o h. sym (same_set 4) ∙ v.needs.both-answers o (sym (at 5 (omega arith)) ∙ h);
        lockout = λ o h. at 4 (omega arith) ∙ v.needs.lockout o (sym (at 6 (omega arith)) ∙ h);
        symbol_alone = λ o h k. at 56 (omega arith) ∙ v.needs.symbol_alone o (same_set 8 ∙ h) (same_set 15 ∙ k);
      }

  -- a message with bitfields has no more bytes than the longest
  pub no_longer : message_size r ≤ order_most
  no_longer =
      let ss = slots_of (get_or r 0 0) (get_or r count_in 0) (take most_bitfields (drop (count_in + 1) r)) in
      omega (arith, sizes, few, takes-below ss, widths_fit (get_or r 0 0) (get_or r count_in 0) (take most_bitfields (drop (count_in + 1) r)), between_small)

  fits : (room : ℕ) → message_size r ≤ room → Fit (record_at r) room
  unfolding record_at write_slots write_rest size_of held-rest
  fits room roomy =
      let message = get_or r 0 0 in
      let set = selected_at (get_or r count_in 0) (take most_bitfields (drop (count_in + 1) r)) in
      let slots = take layout_size (drop layout_in r) in
      let start = before-none (entry_at message) in
      record {
        known = (known_type direction message v.type).known;
        unit = (known_type direction message v.type).unit-taken (get_or r 1 0) (number_at 4 2 r) v.unit;
        count = v.count;
        listed = no_bad_slot set (entry_at message) (λ k e q. v.listed k (same_set k ∙ e) q) all_places 0;
        required = required_set message (get_or r count_in 0) (take most_bitfields (drop (count_in + 1) r))
            (record {
              symbol = λ o. sym (same_set 8) ∙ v.required.symbol o;
              capacity = λ o. sym (same_set 14) ∙ v.required.capacity o;
              price_or_type = λ o. ap₂ (λ (a b : Bool). a || b) (sym (same_set 2)) (sym (same_set 4)) ∙ v.required.price_or_type o;
              quantity = λ o. sym (same_set 2) ∙ v.required.quantity o;
              new_price_or_type = λ o. ap₂ (λ (a b : Bool). a || b) (sym (same_set 3)) (sym (same_set 4)) ∙ v.required.new_price_or_type o;
              instruction = λ o. sym (same_set 2) ∙ v.required.instruction o;
            });
        fixed = v.fixed;
        middle = good_held (get_or r count_in 0) (take most_bitfields (drop (count_in + 1) r));
        late = not_late message (get_or r count_in 0) (take most_bitfields (drop (count_in + 1) r)) slots needs_held;
        agree = ap (λ (n : ℕ). agree_held (slots_from set (entry_at message) all_places 0) (drop n slots)) (sym start) ∙ selected_agree set (entry_at message) layout_size (dictionary_placed message) slots slots_agree all_places 0 (omega arith);
        zero-fixed = ap (λ (n : ℕ). all_nul (drop n held-rest)) (middle-held (get_or r count_in 0) (take most_bitfields (drop (count_in + 1) r))) ∙ unused_zero_lem;
        zero_bits = zero_from most_bitfields (count_in + 1) (get_or r count_in 0) r (omega arith) (λ i l m. v.zero_after_bits i l m);
        zero_slots =
            ap (λ (n : ℕ). zero_elsewhere (slots_from set (entry_at message) all_places 0) (drop n slots)) (sym start)
            ∙ zero_where_unset set (entry_at message) layout_size (dictionary_placed message) slots (λ j e. selected_small (get_or r count_in 0) (take most_bitfields (drop (count_in + 1) r)) j e few) slots_zero all_places 0 refl;
        has_room = omega (arith, sizes, roomy, middle-held (get_or r count_in 0) (take most_bitfields (drop (count_in + 1) r)));
      }

  own_fits : (room : ℕ) → message_size r ≤ room → own_write r room ≡ 0
  unfolding own_write record_at
  own_fits room roomy = rw (not_session (get_or r 0 0) (known_type direction (get_or r 0 0) v.type).is_order_lem) (is_written (record_at r) room (fits room roomy))

-- A VALID RECORD IS TAKEN by the writer, and what is written of it by the reader
pub a_valid_record_is_taken : (direction : ℕ) (r out : List ℕ) → Bytes r → record_size ≤ length r → Valid direction r → message_size r ≤ length out → TakenBothWays direction r out
unfolding held_in
a_valid_record_is_taken direction r out bytes long v room =
    let k = known_type direction (get_or r 0 0) v.type in
    let size : record_size_of (get_or r 0 0) ≡ record_size = order_size (get_or r 0 0) (not_session (get_or r 0 0) k.is_order_lem) in
    let z : write_call direction r (length out) ≡ 0 =
    own_write_lem direction r out (λ q. omega (arith, q, long)) k.carried (omega (arith, size, long)) (length out) ∙ own_fits direction r long v (length out) room in
    let e : held_in r ≡ take record_size r = ap (λ (n : ℕ). take n r) size in
    record {
      written = z;
      read = λ buffer h. (read_again direction r out bytes z buffer (omega (arith, size, h))).0;
      same = λ buffer h. (read_again direction r out bytes z buffer (omega (arith, size, h))).1 ∙ ap (patched buffer 0) e;
    }

-- ---- EVERY CHOICE

-- types and units are bytes
type_byte : (direction message : ℕ) → order_of direction message ≡ true → message < 256
type_byte direction message o = by_type message (known_type direction message o).is_order_lem (λ (x : ℕ). x < 256) (omega arith) (omega arith) (omega arith) (omega arith) (omega arith) (omega arith) (omega arith) (omega arith) (omega arith) (omega arith)

unit_byte : (direction message unit number : ℕ) → order_of direction message ≡ true → UnitFits message unit number → unit < 256
unit_byte direction message unit number o =
    by_type message (known_type direction message o).is_order_lem (λ (x : ℕ). UnitFits x unit number → unit < 256)
    (λ f. none (f.of_member_lem refl)) (λ f. none (f.of_member_lem refl)) (λ f. none (f.of_member_lem refl)) (λ f. none (f.of_member_lem refl)) (λ f. none (f.of_member_lem refl)) (λ f. some (f.at_most refl)) (λ f. some (f.at_most refl))
    (λ f. none (f.no_unit refl)) (λ f. none (f.no_unit refl)) (λ f. none (f.no_unit refl))
  where
    none : unit ≡ 0 → unit < 256
    none e = omega arith

    some : unit ≤ 32 → unit < 256
    some h = omega arith

module _ (direction message unit number : ℕ) (fixed : List ℕ) (count : ℕ) (bits : List ℕ)
    (type : order_of direction message ≡ true) (unit-fits : UnitFits message unit number) (any : number < 4294967296) (f : GoodFixed message fixed) (b : GoodBits message count bits) where
  the_record : Record
  the_record = record { message = message; unit = unit; number = number; fixed = fixed; count = count; bits = bits; slots = chosen_fields message count bits }

  sound : Sound the_record
  unfolding the_record
  sound = record { fixed-length = f.whole; bits_length = b.whole; slots_length = fields_long message count bits; number_range = any }

  stored : List ℕ
  stored = chosen_record message unit number fixed count bits

  held : record_at stored ≡ the_record
  unfolding stored the_record chosen_record
  held = ap record_at (sym (append-nil (record_bytes the_record))) ∙ record_again the_record sound []

  long : length stored ≡ record_size
  unfolding stored the_record chosen_record
  long = record_length the_record sound

  few_bits : count ≤ most_bitfields
  few_bits = omega (arith, b.few, most_bound message)

  stored_bytes : Bytes stored
  unfolding stored chosen_record record_bytes
  stored_bytes =
      bytes_append (message ∷ unit ∷ bytes_of 4 number) (fixed ++ (count ∷ (bits ++ chosen_fields message count bits)))
      (bytes-front message (unit ∷ bytes_of 4 number) (type_byte direction message type) (bytes-front unit (bytes_of 4 number) (unit_byte direction message unit number type unit-fits) (number_bytes 4 number)))
      (bytes_append fixed (count ∷ (bits ++ chosen_fields message count bits)) f.bytes
      (bytes-front count (bits ++ chosen_fields message count bits) (omega (arith, few_bits)) (bytes_append bits (chosen_fields message count bits) b.bytes (fields-bytes message count bits))))

  type_is : get_or stored 0 0 ≡ message
  unfolding record_at the_record
  type_is = ap (λ (x : Record). x.message) held

  unit_is : get_or stored 1 0 ≡ unit
  unfolding record_at the_record
  unit_is = ap (λ (x : Record). x.unit) held

  number_is : number_at 4 2 stored ≡ number
  unfolding record_at the_record
  number_is = ap (λ (x : Record). x.number) held

  count_is : get_or stored count_in 0 ≡ count
  unfolding record_at the_record
  count_is = ap (λ (x : Record). x.count) held

  fixed_is : take fixed_size (drop 6 stored) ≡ fixed
  unfolding record_at the_record
  fixed_is = ap (λ (x : Record). x.fixed) held

  bits_are : take most_bitfields (drop (count_in + 1) stored) ≡ bits
  unfolding record_at the_record
  bits_are = ap (λ (x : Record). x.bits) held

  slots_are : take layout_size (drop layout_in stored) ≡ chosen_fields message count bits
  unfolding record_at the_record
  slots_are = ap (λ (x : Record). x.slots) held

  -- a byte of a part
  in_part : (n a i : ℕ) (l : List ℕ) → take n (drop a stored) ≡ l → i < n → get_or stored (a + i) 0 ≡ get_or l i 0
  in_part n a i l e h = sym (get_or-drop a stored i 0) ∙ sym (get_or-take n (drop a stored) i 0 h) ∙ ap (λ (x : List ℕ). get_or x i 0) e

  set_is : (k : ℕ) → set_in_record stored k ≡ selected_at count bits k
  set_is = set_same count_in count stored bits count_is (λ j h. in_part most_bitfields (count_in + 1) j bits bits_are (omega (arith, few_bits)))

  layout_at : (i : ℕ) → i < layout_size → get_or stored (layout_in + i) 0 ≡ get_or (chosen_fields message count bits) i 0
  layout_at i h = in_part layout_size layout_in i (chosen_fields message count bits) slots_are h

  -- a field's bytes are those of the chosen fields
  layout_part : (w p : ℕ) → p + w ≤ layout_size → take w (drop p (drop layout_in stored)) ≡ take w (drop p (chosen_fields message count bits))
  layout_part w p h = sym (part_of_front w p layout_size (drop layout_in stored) h) ∙ ap (λ (l : List ℕ). take w (drop p l)) slots_are

  layout_byte : (i : ℕ) → i < layout_size → get_or (drop layout_in stored) i 0 ≡ get_or (chosen_fields message count bits) i 0
  layout_byte i h = get_or-drop layout_in stored i 0 ∙ layout_at i h

  between_is : between_in stored ≡ between_of message fixed
  unfolding between_in between_of
  between_is = ap₂ (λ (x n : ℕ). cond (eqb x 0x47) (1 + 2 * n) 0) type_is (in_part fixed_size 6 1 fixed fixed_is (omega arith))

  needs_met : NeedsMet (get_or stored 0 0) (set_in_record stored) (drop layout_in stored)
  needs_met =
      let n = fields_needs message count bits b.required in
      let at : (i : ℕ) → i < layout_size → get_or (drop layout_in stored) i 0 ≡ get_or (chosen_fields message count bits) i 0 = layout_byte in
      record {
        market-price = λ o h. at 16 (omega arith) ∙ n.market-price (sym type_is ∙ o) (sym (set_is 3) ∙ h);
        firm = λ o h. set_is 0 ∙ n.firm (sym type_is ∙ o) (sym (at 4 (omega arith)) ∙ h);
        one_answer = λ o h. set_is 4 ∙ n.one_answer (sym type_is ∙ o) (sym (at 5 (omega arith)) ∙ h);
        both-answers = λ o h. set_is 4 ∙ n.both-answers (sym type_is ∙ o) (sym (at 5 (omega arith)) ∙ h);
        lockout = λ o h. at 4 (omega arith) ∙ n.lockout (sym type_is ∙ o) (sym (at 6 (omega arith)) ∙ h);
        symbol_alone = λ o h k. at 56 (omega arith) ∙ n.symbol_alone (sym type_is ∙ o) (sym (set_is 8) ∙ h) (sym (set_is 15) ∙ k);
      }

  after-fixed : (i : ℕ) → count_at message + between_of message fixed ≤ i + 4 → i < count_in → get_or stored i 0 ≡ 0
  after-fixed i l h =
      let e : 6 + (i - 6) ≡ i = omega (arith, (count_bounds message).low) in
      ap (λ (n : ℕ). get_or stored n 0) (sym e) ∙ in_part fixed_size 6 (i - 6) fixed fixed_is (omega arith) ∙ f.ends (i - 6) (omega arith)

  after_bits : (i : ℕ) → count_in + 1 + count ≤ i → i < layout_in → get_or stored i 0 ≡ 0
  after_bits i l h =
      let e : count_in + 1 + (i - bits_place) ≡ i = omega arith in
      ap (λ (n : ℕ). get_or stored n 0) (sym e) ∙ in_part most_bitfields (count_in + 1) (i - bits_place) bits bits_are (omega arith) ∙ b.ends (i - bits_place) (omega arith)

  valid : Valid direction stored
  unfolding entry_at
  valid = record {
    type = ap (λ (x : ℕ). order_of direction x) type_is ∙ type;
    unit = rw (type_is, unit_is, number_is) unit-fits;
    fixed = ap₂ fixed_good type_is fixed_is ∙ f.good;
    count = rw (count_is, type_is) b.few;
    listed = λ k e q. b.listed k (sym (set_is k) ∙ e) (ap (λ (x : ℕ). entry_at x k) (sym type_is) ∙ q);
    required = record {
      symbol = λ o. set_is 8 ∙ b.required.symbol (ap is_new_order (sym type_is) ∙ o);
      capacity = λ o. set_is 14 ∙ b.required.capacity (ap is_new_order (sym type_is) ∙ o);
      price_or_type = λ o. ap₂ (λ (x y : Bool). x || y) (set_is 2) (set_is 4) ∙ b.required.price_or_type (ap is_new_order (sym type_is) ∙ o);
      quantity = λ o. set_is 2 ∙ b.required.quantity (sym type_is ∙ o);
      new_price_or_type = λ o. ap₂ (λ (x y : Bool). x || y) (set_is 3) (set_is 4) ∙ b.required.new_price_or_type (sym type_is ∙ o);
      instruction = λ o. set_is 2 ∙ b.required.instruction (sym type_is ∙ o);
    };
    groups = λ o. rw (in_part fixed_size 6 1 fixed fixed_is (omega arith)) (f.groups (sym type_is ∙ o));
    agree = λ k w p kind e q.
        let here = ap (λ (x : ℕ). entry_at x k) type_is in
        ap (agrees_of kind) (layout_part w p (field_fits (get_or stored 0 0) (k / 8 + 1) (k % 8) q))
        ∙ fields_agree message count bits (known_type direction message type).is_order_lem few_bits k w p kind (sym (set_is k) ∙ e) (q ∙ here);
    needs = needs_met;
    zero_after_fixed = λ i l h. after-fixed i (rw (type_is, between_is) at l) h;
    zero_after_bits = λ i l h. after_bits i (rw count_is at l) h;
    zero_elsewhere_lem = λ i h u. layout_at i h ∙ fields-zero message count bits b.required i (λ k w p kind e q. u k w p kind (set_is k ∙ e) (q ∙ ap (λ (x : ℕ). entry_at x k) (sym type_is)));
  }

  -- EVERY CHOICE IS TAKEN, into any output buffer that has room for the longest
  pub every_choice_is_taken : (out : List ℕ) → order_most ≤ length out → TakenBothWays direction (chosen_record message unit number fixed count bits) out
  unfolding stored
  every_choice_is_taken out room =
      a_valid_record_is_taken direction stored out stored_bytes (omega (arith, long)) valid (omega (arith, no_longer direction stored (omega (arith, long)) valid))
