-- What is true of the fields that the late rules judge: that a record whose needs are met is not refused late, and that the layout of a choice of bits
-- agrees with its kinds, is zero where nothing is selected, and meets the needs. Assumes nothing.
use Rattle.std.specs.Prelude.{◌≡◌, Bool, cond, not, ◌&&◌, ◌||◌, ℕ, zero, suc, ◌+◌, ◌-◌, ◌≤◌, ◌<◌, length, take, drop}
use Rattle.std.proofs.Math.Path.{refl}
use Rattle.std.proofs.Common.{sym, ap, ◌∙◌, true≢false, arith, eqb-true, eq-eqb, ne_eqb}
use Rattle.std.proofs.Math.Bool.{true, false}
use mathlib.Core.List.{List, [], ◌∷◌, ◌++◌}
use Rattle.std.proofs.Math.Dec.{eqb}
use Rattle.std.proofs.Math.ListN.{get_or}
use Rattle.std.proofs.lemmas.Bool.{eqb-false, not-true}
use Rattle.kinds.specs.Kinds.{agrees_of}
use Rattle.dictionary.specs.declared.Entry.{Entry}
use Rattle.dictionary.specs.declared.Entry.TheVariants.{Refused, Field}
use Rattle.calendar.specs.Calendar.{is_day, days_in, leap}
use Rattle.dictionary.specs.Dictionary.{pick, entry_of}
use Rattle.wire.specs.HeaderLaws.{Bytes}
use Rattle.block.specs.Slots.{zeros}
use Rattle.block.specs.SlotLaws.{both_true}
use Rattle.block.specs.Places.{selected_at, entry_at}
use Rattle.block.specs.FieldPlaces.{AllAgree, Unselected}
use Rattle.block.specs.Sizes.{most_bitfields, all_places, layout_size}
use Rattle.orders.specs.Late.{market, char_f, char_s, char_b, char_l, modify_order_lacks, purge_orders_lacks, purge_orders_conflicts, lacks, conflicts, late_refusal}
use Rattle.refusals.specs.Names.{not_selected, conflict}
use Rattle.refusals.specs.Told.{told}
use Rattle.orders.specs.Shapes.{count_at}
use Rattle.messages.specs.ByteLaws.{bytes-front, bytes_append, bytes_below, zero_byte, bytes-zeros}
use Rattle.messages.specs.OrderPlaces.{is_order}
use Rattle.messages.proofs.FieldPlace.{selected_small, by_type}
use Rattle.messages.specs.ValidOrders.{Required, NeedsMet, market_type, cancel_all, first_day, chosen_fields}

-- ---- what is needed and there

needed : (a b : Bool) → (a ≡ true → b ≡ true) → (a && not b) ≡ false
needed true b h = rw (h refl)
needed false b h = refl

needed_by_two : (a b c : Bool) → (a ≡ true → c ≡ true) → (b ≡ true → c ≡ true) → ((a || b) && not c) ≡ false
needed_by_two true b c h k = rw (h refl)
needed_by_two false b c h k = needed b c k

apart : (a b c : Bool) → (a ≡ true → b ≡ true → c ≡ true) → (a && (b && not c)) ≡ false
apart true b c h = needed b c (h refl)
apart false b c h = refl

-- NEEDS MET: then nothing is refused late
pub not_late : (message count : ℕ) (bits v : List ℕ) → NeedsMet message (selected_at count bits) v → late_refusal message count bits v ≡ 0
unfolding late_refusal lacks conflicts
not_late message count bits v n = by (eqb message 0x3A) (eqb message 0x47) refl refl
  where
    by : (a b : Bool) → eqb message 0x3A ≡ a → eqb message 0x47 ≡ b
        → cond (cond a (modify_order_lacks count bits v) (cond b (purge_orders_lacks count bits v) false)) (told not_selected (count_at message + count))
        (cond (b && purge_orders_conflicts count bits v) conflict 0)
        ≡ 0
    by true true e f = let x : message ≡ 0x3A = eqb-true message 0x3A e in let y : message ≡ 0x47 = eqb-true message 0x47 f in absurd (omega (arith, x, y))
    by true false e f =
        let x : message ≡ 0x3A = eqb-true message 0x3A e in
        let p : (not (selected_at count bits 3) && not (eqb (get_or v 16 0) market)) ≡ false =
        needed (not (selected_at count bits 3)) (eqb (get_or v 16 0) market) (λ h. eq-eqb (get_or v 16 0) market (n.market-price x (not-true (selected_at count bits 3) h))) in
        rw p
    by false true e f =
        let x : message ≡ 0x47 = eqb-true message 0x47 f in
        let p : (eqb (get_or v 4 0) char_f && not (selected_at count bits 0)) ≡ false = needed (eqb (get_or v 4 0) char_f) (selected_at count bits 0) (λ h. n.firm x (eqb-true (get_or v 4 0) char_f h)) in
        let q : ((eqb (get_or v 5 0) char_s || eqb (get_or v 5 0) char_b) && not (selected_at count bits 4)) ≡ false =
        needed_by_two (eqb (get_or v 5 0) char_s) (eqb (get_or v 5 0) char_b) (selected_at count bits 4) (λ h. n.one_answer x (eqb-true (get_or v 5 0) char_s h)) (λ h. n.both-answers x (eqb-true (get_or v 5 0) char_b h)) in
        let r : (eqb (get_or v 6 0) char_l && not (eqb (get_or v 4 0) char_f)) ≡ false =
        needed (eqb (get_or v 6 0) char_l) (eqb (get_or v 4 0) char_f) (λ h. eq-eqb (get_or v 4 0) char_f (n.lockout x (eqb-true (get_or v 6 0) char_l h))) in
        let s : (selected_at count bits 8 && (selected_at count bits 15 && not (eqb (get_or v 56 0) 0))) ≡ false =
        apart (selected_at count bits 8) (selected_at count bits 15) (eqb (get_or v 56 0) 0) (λ h k. eq-eqb (get_or v 56 0) 0 (n.symbol_alone x h k)) in
        rw (p, q, r, s)
    by false false e f = refl

-- ---- the four layouts of a choice

-- some bytes among zeros
pub some-set : (a : ℕ) (xs : List ℕ) (n i : ℕ) → (a ≤ i → i < a + length xs → ⊥) → get_or (zeros a ++ (xs ++ zeros n)) i 0 ≡ 0
some-set zero [] n i h = zero_byte n i
some-set zero (x ∷ xs) n zero h = absurd (h (omega arith) (omega arith))
some-set zero (x ∷ xs) n (suc i) h = some-set zero xs n i (λ l m. h (omega arith) (omega arith))
some-set (suc a) xs n zero h = refl
some-set (suc a) xs n (suc i) h = some-set a xs n i (λ l m. h (omega arith) (omega arith))

module _ (message count : ℕ) (bits : List ℕ) where
  -- what holds of each where it is the layout holds of the layout
  by_layout : (P : List ℕ → Type 0) → (message ≡ 0x3A → selected_at count bits 4 ≡ true → P market_type) → (message ≡ 0x47 → P cancel_all)
      → (message ≡ 0xB8 → selected_at count bits 24 ≡ true → P first_day)
      → ((message ≡ 0x3A → selected_at count bits 4 ≡ false) → (message ≡ 0x47 → ⊥) → (message ≡ 0xB8 → selected_at count bits 24 ≡ false) → P (zeros layout_size)) → P (chosen_fields message count bits)
  unfolding chosen_fields
  by_layout P a b d c = by (eqb message 0x3A) (eqb message 0x47) (selected_at count bits 4) refl refl refl
    where
      last : (x : Bool) → eqb message 0xB8 ≡ x → (s : Bool) → selected_at count bits 24 ≡ s → (message ≡ 0x3A → selected_at count bits 4 ≡ false) → (message ≡ 0x47 → ⊥) → P (cond (x && s) first_day (zeros layout_size))
      last true e true f g h = d (eqb-true message 0xB8 e) f
      last true e false f g h = c g h (λ q. f)
      last false e s f g h = c g h (λ q. absurd (eqb-false message 0xB8 e q))

      by : (x y s : Bool) → eqb message 0x3A ≡ x → eqb message 0x47 ≡ y → selected_at count bits 4 ≡ s
          → P (cond (x && s) market_type (cond y cancel_all (cond (eqb message 0xB8 && selected_at count bits 24) first_day (zeros layout_size))))
      by true y true e f g = a (eqb-true message 0x3A e) g
      by true true false e f g = b (eqb-true message 0x47 f)
      by true false false e f g = last (eqb message 0xB8) refl (selected_at count bits 24) refl (λ q. g) (eqb-false message 0x47 f)
      by false true s e f g = b (eqb-true message 0x47 f)
      by false false s e f g = last (eqb message 0xB8) refl (selected_at count bits 24) refl (λ q. absurd (eqb-false message 0x3A e q)) (eqb-false message 0x47 f)

  pub fields_long : length (chosen_fields message count bits) ≡ layout_size
  fields_long = by_layout (λ (l : List ℕ). length l ≡ layout_size) (λ e f. refl) (λ e. refl) (λ e f. refl) (λ e f g. refl)

  pub fields-bytes : Bytes (chosen_fields message count bits)
  fields-bytes =
      by_layout Bytes
      (λ e f. bytes_append (zeros 16) (0x31 ∷ zeros (layout_size - 17)) (bytes-zeros 16) (bytes-front 0x31 (zeros (layout_size - 17)) (omega arith) (bytes-zeros (layout_size - 17))))
      (λ e. bytes_append (zeros 4) (0x41 ∷ zeros (layout_size - 5)) (bytes-zeros 4) (bytes-front 0x41 (zeros (layout_size - 5)) (omega arith) (bytes-zeros (layout_size - 5))))
      (λ e f. bytes_append (zeros 56) (0x85 ∷ 0x99 ∷ 0x2C ∷ 0x01 ∷ zeros (layout_size - 60)) (bytes-zeros 56) (bytes_append (0x85 ∷ 0x99 ∷ 0x2C ∷ 0x01 ∷ []) (zeros (layout_size - 60)) (bytes_below (0x85 ∷ 0x99 ∷ 0x2C ∷ 0x01 ∷ []) refl) (bytes-zeros (layout_size - 60))))
      (λ e f g. bytes-zeros layout_size)

  -- they meet the needs
  pub fields_needs : Required message (selected_at count bits) → NeedsMet message (selected_at count bits) (chosen_fields message count bits)
  fields_needs q =
      by_layout (NeedsMet message (selected_at count bits))
      (λ e f. record {
        market-price = λ o h. refl;
        firm = λ o h. absurd (omega (arith, e, o));
        one_answer = λ o h. absurd (omega (arith, e, o));
        both-answers = λ o h. absurd (omega (arith, e, o));
        lockout = λ o h. absurd (omega (arith, e, o));
        symbol_alone = λ o h k. refl;
      })
      (λ e. record {
        market-price = λ o h. absurd (omega (arith, e, o));
        firm = λ o h. absurd (omega (arith, h));
        one_answer = λ o h. absurd (omega (arith, h));
        both-answers = λ o h. absurd (omega (arith, h));
        lockout = λ o h. absurd (omega (arith, h));
        symbol_alone = λ o h k. refl;
      })
      (λ e f. record {
        market-price = λ o h. absurd (omega (arith, e, o));
        firm = λ o h. absurd (omega (arith, e, o));
        one_answer = λ o h. absurd (omega (arith, e, o));
        both-answers = λ o h. absurd (omega (arith, e, o));
        lockout = λ o h. absurd (omega (arith, e, o));
        symbol_alone = λ o h k. absurd (omega (arith, e, o));
      })
      (λ e f g. record {
        market-price = λ o h. absurd (true≢false (sym (q.new_price_or_type o) ∙ none (selected_at count bits 3) (selected_at count bits 4) h (e o)));
        firm = λ o h. absurd (f o);
        one_answer = λ o h. absurd (f o);
        both-answers = λ o h. absurd (f o);
        lockout = λ o h. absurd (f o);
        symbol_alone = λ o h k. refl;
      })
    where
      none : (a b : Bool) → a ≡ false → b ≡ false → (a || b) ≡ false
      none a b h k = rw (h, k)

  -- they are zero where nothing is selected
  pub fields-zero : Required message (selected_at count bits) → (i : ℕ) → Unselected (selected_at count bits) (entry_at message) i → get_or (chosen_fields message count bits) i 0 ≡ 0
  unfolding entry_at entry_of
  fields-zero q i u =
      by_layout (λ (l : List ℕ). get_or l i 0 ≡ 0)
      (λ e f. some-set 16 (0x31 ∷ []) (layout_size - 17) i (λ l m. u 4 1 16 _ f (ap (λ (x : ℕ). entry_at x 4) (sym e)) (omega (arith, l)) (omega (arith, m))))
      (λ e. some-set 4 (0x41 ∷ []) (layout_size - 5) i (λ l m. u 2 16 4 _ (q.instruction e) (ap (λ (x : ℕ). entry_at x 2) (sym e)) (omega (arith, l)) (omega (arith, m))))
      (λ e f. some-set 56 (0x85 ∷ 0x99 ∷ 0x2C ∷ 0x01 ∷ []) (layout_size - 60) i (λ l m. u 24 4 56 _ f (ap (λ (x : ℕ). entry_at x 24) (sym e)) (omega (arith, l)) (omega (arith, m))))
      (λ e f g. zero_byte layout_size i)

-- ---- they agree with the kinds: one test a message, computed over all its places

agree_at : Entry → List ℕ → Bool
agree_at Refused v = true
agree_at (Field w kind p) v = agrees_of kind (take w (drop p v))

agree_all : (ℕ → Entry) → List ℕ → ℕ → ℕ → Bool
agree_all entry v zero k = true
agree_all entry v (suc n) k = agree_at (entry k) v && agree_all entry v n (suc k)

found : (entry : ℕ → Entry) (v : List ℕ) (n k : ℕ) → agree_all entry v n k ≡ true → (i : ℕ) → i < n → agree_at (entry (k + i)) v ≡ true
unfolding agree_all
found entry v zero k t i h = absurd (omega (arith, h))
found entry v (suc n) k t zero h = let e : k + 0 ≡ k = omega arith in rw e (both_true (agree_at (entry k) v) (agree_all entry v n (suc k)) t).0
found entry v (suc n) k t (suc i) h =
    let e : suc k + i ≡ k + suc i = omega arith in
    ap (λ (j : ℕ). agree_at (entry j) v) (sym e) ∙ found entry v n (suc k) (both_true (agree_at (entry k) v) (agree_all entry v n (suc k)) t).1 i (omega arith)

all_agree : (message count : ℕ) (bits v : List ℕ) → count ≤ most_bitfields → agree_all (entry_at message) v all_places 0 ≡ true → AllAgree (selected_at count bits) (entry_at message) v
unfolding agree_at
all_agree message count bits v few t k w p kind s q =
    let e : 0 + k ≡ k = omega arith in
    ap (λ (x : Entry). agree_at x v) (q ∙ ap (entry_at message) (sym e)) ∙ found (entry_at message) v all_places 0 t k (selected_small count bits k s few)

-- a dictionary without the field of one place; where that one is not selected, the other fields are enough
without : ℕ → (ℕ → Entry) → ℕ → Entry
without j entry k = pick (eqb k j) Refused (entry k)

all_agree_but : (j message count : ℕ) (bits v : List ℕ) → count ≤ most_bitfields → selected_at count bits j ≡ false → agree_all (without j (entry_at message)) v all_places 0 ≡ true → AllAgree (selected_at count bits) (entry_at message) v
unfolding agree_at without
all_agree_but j message count bits v few off t k w p kind s q =
    let e : 0 + k ≡ k = omega arith in
    let n : k ≡ j → ⊥ = λ r. true≢false (sym s ∙ ap (selected_at count bits) r ∙ off) in
    let here : without j (entry_at message) k ≡ entry_at message k = rw (ne_eqb k j n) in
    ap (λ (x : Entry). agree_at x v) (q ∙ sym here ∙ ap (without j (entry_at message)) (sym e)) ∙ found (without j (entry_at message)) v all_places 0 t k (selected_small count bits k s few)

blank_agree : (message : ℕ) → is_order message ≡ true → (message ≡ 0x47 → ⊥) → (message ≡ 0xB8 → ⊥) → agree_all (entry_at message) (zeros layout_size) all_places 0 ≡ true
unfolding agree_all agree_at entry_at entry_of
blank_agree message o =
    by_type message o (λ (x : ℕ). (x ≡ 0x47 → ⊥) → (x ≡ 0xB8 → ⊥) → agree_all (entry_at x) (zeros layout_size) all_places 0 ≡ true)
    (λ n k. refl) (λ n k. absurd (k refl)) (λ n k. refl) (λ n k. refl) (λ n k. absurd (n refl)) (λ n k. refl) (λ n k. refl) (λ n k. refl) (λ n k. refl) (λ n k. refl)

no_day_agree : agree_all (without 24 (entry_at 0xB8)) (zeros layout_size) all_places 0 ≡ true
unfolding agree_all agree_at without entry_at entry_of
no_day_agree = refl

day_agree : agree_all (entry_at 0xB8) first_day all_places 0 ≡ true
unfolding agree_all agree_at entry_at entry_of is_day days_in leap
day_agree = refl

market_agree : agree_all (entry_at 0x3A) market_type all_places 0 ≡ true
unfolding agree_all agree_at entry_at entry_of
market_agree = refl

cancel_agree : agree_all (entry_at 0x47) cancel_all all_places 0 ≡ true
unfolding agree_all agree_at entry_at entry_of
cancel_agree = refl

pub fields_agree : (message count : ℕ) (bits : List ℕ) → is_order message ≡ true → count ≤ most_bitfields → AllAgree (selected_at count bits) (entry_at message) (chosen_fields message count bits)
fields_agree message count bits o few =
    by_layout message count bits (AllAgree (selected_at count bits) (entry_at message))
    (λ e f. all_agree message count bits market_type few (ap (λ (x : ℕ). agree_all (entry_at x) market_type all_places 0) e ∙ market_agree))
    (λ e. all_agree message count bits cancel_all few (ap (λ (x : ℕ). agree_all (entry_at x) cancel_all all_places 0) e ∙ cancel_agree))
    (λ e f. all_agree message count bits first_day few (ap (λ (x : ℕ). agree_all (entry_at x) first_day all_places 0) e ∙ day_agree))
    (λ e f g. by (eqb message 0xB8) refl g f)
  where
    by : (b : Bool) → eqb message 0xB8 ≡ b → (message ≡ 0xB8 → selected_at count bits 24 ≡ false) → (message ≡ 0x47 → ⊥) → AllAgree (selected_at count bits) (entry_at message) (zeros layout_size)
    by true e g f =
        let is : message ≡ 0xB8 = eqb-true message 0xB8 e in
        all_agree_but 24 message count bits (zeros layout_size) few (g is) (ap (λ (x : ℕ). agree_all (without 24 (entry_at x)) (zeros layout_size) all_places 0) is ∙ no_day_agree)
    by false e g f = all_agree message count bits (zeros layout_size) few (blank_agree message o f (eqb-false message 0xB8 e))
