-- What the walks need of a dictionary: that a field's place in the full layout is the sum of the widths before it. And that the
-- dictionaries of the messages are such: one test a message, computed over all its places. Assumes nothing.
use Rattle.std.specs.Prelude.{◌≡◌, refl, Bool, true, false, cond, ◌&&◌, List, [], ◌∷◌, ℕ, zero, suc, ◌+◌, ◌≤◌, ◌<◌, T, eqb, leb}
use Rattle.std.proofs.Common.{sym, ap, ◌∙◌, subst, add-zero, zero-add, add_assoc, le_of_suc-le-suc, not-suc-le-zero, arith, eqb→eq, leb→le}
use Rattle.kinds.specs.declared.Kind.{Kind}
use Rattle.dictionary.specs.declared.Entry.{Entry}
use Rattle.dictionary.specs.declared.Entry.TheVariants.{Refused, Field}
use Rattle.dictionary.specs.Dictionary.{Line, line, new_order, cancel_order, acknowledgments, executions, rejections, cancel_rejections, modify_order, purge_orders, options_order, list_of, pick, index_of, lookup, entry_of}
use Rattle.block.specs.Slots.{width_of, width, sum}
use Rattle.block.specs.Places.{selected_at, entry_at, slots_from, slots_of}
use Rattle.block.specs.Sizes.{all_places, layout_size}

-- the widths of all places below k
unfoldable pub before : (ℕ → Entry) → ℕ → ℕ
before entry zero = 0
before entry (suc k) = before entry k + width_of (entry k)

-- nothing stands before the first place
pub before-none : (entry : ℕ → Entry) → before entry 0 ≡ 0
unfolding before
before-none entry = refl

-- a field's place is the sum of the widths before it
pub record Placed (entry : ℕ → Entry) (size : ℕ) : Type 0 where
  pub placed : (k : ℕ) → k < all_places → {w : ℕ} {kind : Kind} {p : ℕ} → Field w kind p ≡ entry k → p ≡ before entry k
  pub fits : before entry all_places ≤ size

-- the widths of n slots from k on, with those before, are those below k + n
pub widths_add : (selected : ℕ → Bool) (entry : ℕ → Entry) (n k : ℕ) → before entry k + sum width (slots_from selected entry n k) ≡ before entry (k + n)
unfolding slots_from before
widths_add selected entry zero k = ap (λ (x : ℕ). before entry k + x) refl ∙ add-zero (before entry k) ∙ ap (before entry) (sym (add-zero k))
widths_add selected entry (suc n) k =
    let e : suc k + n ≡ k + suc n = omega arith in
    sym (add_assoc (before entry k) (width_of (entry k)) (sum width (slots_from selected entry n (suc k))))
    ∙ widths_add selected entry n (suc k)
    ∙ ap (before entry) e

-- the widths below a place are at most those below a later one
pub before_grows : (entry : ℕ → Entry) (n k : ℕ) → before entry k ≤ before entry (k + n)
unfolding before
before_grows entry zero k = rw (add-zero k) (omega arith)
before_grows entry (suc n) k =
    let e : k + suc n ≡ suc (k + n) = omega arith in
    let h = before_grows entry n k in
    rw e (omega arith)

-- ---- the messages' dictionaries

-- the entry of a place whose widths before sum to b
test : Entry → ℕ → Bool
test Refused b = true
test (Field w k p) b = eqb p b

sweep : (ℕ → Entry) → ℕ → ℕ → ℕ → Bool
sweep entry zero k b = leb b layout_size
sweep entry (suc n) k b = test (entry k) b && sweep entry n (suc k) (b + width_of (entry k))

left : (a b : Bool) → T (a && b) → T a
left true b t = tt
left false b t = t

right : (a b : Bool) → T (a && b) → T b
right true b t = t
right false b t = absurd t

found : (entry : ℕ → Entry) (n k : ℕ) → T (sweep entry n k (before entry k)) → (i : ℕ) → i < n → T (test (entry (k + i)) (before entry (k + i)))
unfolding sweep before
found entry zero k t i h = absurd (not-suc-le-zero h)
found entry (suc n) k t zero h =
    subst (λ (m : ℕ). T (test (entry m) (before entry m))) (sym (add-zero k)) (left (test (entry k) (before entry k)) _ t)
found entry (suc n) k t (suc i) h =
    let e : suc k + i ≡ k + suc i = omega arith in
    subst (λ (m : ℕ). T (test (entry m) (before entry m))) e (found entry n (suc k) (right (test (entry k) (before entry k)) _ t) i (le_of_suc-le-suc h))

small : (entry : ℕ → Entry) (n k : ℕ) → T (sweep entry n k (before entry k)) → before entry (k + n) ≤ layout_size
unfolding sweep before
small entry zero k t = rw (add-zero k) (leb→le _ _ t)
small entry (suc n) k t =
    let e : suc k + n ≡ k + suc n = omega arith in
    subst (λ (m : ℕ). before entry m ≤ layout_size) e (small entry n (suc k) (right (test (entry k) (before entry k)) _ t))

from_test : (w : ℕ) (kind : Kind) (p b : ℕ) (e : Entry) → Field w kind p ≡ e → T (test e b) → p ≡ b
unfolding test
from_test w kind p b e q t = eqb→eq p b (subst (λ (x : Entry). T (test x b)) (sym q) t)

by_sweep : (entry : ℕ → Entry) → T (sweep entry all_places 0 0) → Placed entry layout_size
unfolding before
by_sweep entry t = record {
  placed = λ k h {w} {kind} {p} q. from_test w kind p (before entry k) (entry k) q (subst (λ (m : ℕ). T (test (entry m) (before entry m))) (zero-add k) (found entry all_places 0 t k h));
  fits = small entry all_places 0 t;
}

at-new_order : T (sweep (entry_at 0x38) all_places 0 0)
unfolding sweep test entry_at entry_of
at-new_order = tt

at_cancel : T (sweep (entry_at 0x39) all_places 0 0)
unfolding sweep test entry_at entry_of
at_cancel = tt

at-acknowledgment : T (sweep (entry_at 0x25) all_places 0 0)
unfolding sweep test entry_at entry_of
at-acknowledgment = tt

at_execution : T (sweep (entry_at 0x2C) all_places 0 0)
unfolding sweep test entry_at entry_of
at_execution = tt

at-rejection : T (sweep (entry_at 0x26) all_places 0 0)
unfolding sweep test entry_at entry_of
at-rejection = tt

at_cancel_rejection : T (sweep (entry_at 0x2B) all_places 0 0)
unfolding sweep test entry_at entry_of
at_cancel_rejection = tt

at-modify_order : T (sweep (entry_at 0x3A) all_places 0 0)
unfolding sweep test entry_at entry_of
at-modify_order = tt

at-purge_orders : T (sweep (entry_at 0x47) all_places 0 0)
unfolding sweep test entry_at entry_of
at-purge_orders = tt

at-options_order : T (sweep (entry_at 0xB8) all_places 0 0)
unfolding sweep test entry_at entry_of
at-options_order = tt

none_before : (entry : ℕ → Entry) → ((k : ℕ) → entry k ≡ Refused) → (k : ℕ) → before entry k ≡ 0
unfolding before
none_before entry r zero = refl
none_before entry r (suc k) = let e : width_of (entry k) ≡ 0 = ap width_of (r k) in let h = none_before entry r k in omega arith

none-placed : (entry : ℕ → Entry) → ((k : ℕ) → entry k ≡ Refused) → Placed entry layout_size
none-placed entry r = record {
  placed = λ k h {w} {kind} {p} q. let f : Field w kind p ≡ Refused = q ∙ r k in let z : ◌≡◌ {A = ℕ} 0 1 = cc in absurd (omega arith);
  fits = let e = none_before entry r all_places in omega arith;
}

-- every type's dictionary is placed in the full layout
pub dictionary_placed : (message : ℕ) → Placed (entry_at message) layout_size
unfolding entry_at entry_of
dictionary_placed message = by (eqb message 0x38) (eqb message 0x39) (eqb message 0x25) (eqb message 0x2C) (eqb message 0x26) (eqb message 0x2B) (eqb message 0x3A) (eqb message 0x47) (eqb message 0xB8) refl refl refl refl refl refl refl refl refl
  where
    at : (x : ℕ) → Placed (entry_at x) layout_size → eqb message x ≡ true → Placed (entry_at message) layout_size
    at x h e = subst (λ (m : ℕ). Placed (entry_at m) layout_size) (sym (eqb→eq message x (subst T (sym e) tt))) h

    by : (b1 b2 b3 b4 b5 b6 b7 b8 b9 : Bool) → eqb message 0x38 ≡ b1 → eqb message 0x39 ≡ b2 → eqb message 0x25 ≡ b3 → eqb message 0x2C ≡ b4 → eqb message 0x26 ≡ b5 → eqb message 0x2B ≡ b6
        → eqb message 0x3A ≡ b7 → eqb message 0x47 ≡ b8 → eqb message 0xB8 ≡ b9 → Placed (entry_at message) layout_size
    by true b2 b3 b4 b5 b6 b7 b8 b9 p q r s t u v w x = at 0x38 (by_sweep (entry_at 0x38) at-new_order) p
    by false true b3 b4 b5 b6 b7 b8 b9 p q r s t u v w x = at 0x39 (by_sweep (entry_at 0x39) at_cancel) q
    by false false true b4 b5 b6 b7 b8 b9 p q r s t u v w x = at 0x25 (by_sweep (entry_at 0x25) at-acknowledgment) r
    by false false false true b5 b6 b7 b8 b9 p q r s t u v w x = at 0x2C (by_sweep (entry_at 0x2C) at_execution) s
    by false false false false true b6 b7 b8 b9 p q r s t u v w x = at 0x26 (by_sweep (entry_at 0x26) at-rejection) t
    by false false false false false true b7 b8 b9 p q r s t u v w x = at 0x2B (by_sweep (entry_at 0x2B) at_cancel_rejection) u
    by false false false false false false true b8 b9 p q r s t u v w x = at 0x3A (by_sweep (entry_at 0x3A) at-modify_order) v
    by false false false false false false false true b9 p q r s t u v w x = at 0x47 (by_sweep (entry_at 0x47) at-purge_orders) w
    by false false false false false false false false true p q r s t u v w x = at 0xB8 (by_sweep (entry_at 0xB8) at-options_order) x
    by false false false false false false false false false p q r s t u v w x = none-placed (entry_at message) (λ k. simp (p, q, r, s, t, u, v, w, x))

-- all slots of a message fit the layout
pub widths_fit : (message count : ℕ) (bits : List ℕ) → sum width (slots_of message count bits) ≤ layout_size
widths_fit message count bits =
    let w : before (entry_at message) 0 + sum width (slots_of message count bits) ≡ before (entry_at message) all_places = widths_add (selected_at count bits) (entry_at message) all_places 0 in
    let z : before (entry_at message) 0 ≡ 0 = before-none (entry_at message) in
    let f : before (entry_at message) all_places ≤ layout_size = (dictionary_placed message).fits in
    omega arith

-- ---- a listed field lies within the layout

widths : List Line → ℕ
widths [] = 0
widths (line b t w k ∷ ls) = w + widths ls

in_list : (ls : List Line) (q byte bit : ℕ) {w p : ℕ} {k : Kind} → Field w k p ≡ lookup ls q byte bit → p + w ≤ q + widths ls
unfolding widths
in_list [] q byte bit {w} {p} {k} e = let z : ◌≡◌ {A = ℕ} 0 1 = cc in absurd (omega arith)
in_list (line b t v kd ∷ ls) q byte bit {w} {p} {k} e = by (eqb byte b && eqb bit (index_of t)) (λ f. in_list ls (q + v) byte bit f) e
  where
    by : (c : Bool) → (Field w k p ≡ lookup ls (q + v) byte bit → p + w ≤ q + v + widths ls) → Field w k p ≡ pick c (Field v kd q) (lookup ls (q + v) byte bit) → p + w ≤ q + (v + widths ls)
    by true rest f =
        let a : p ≡ q = cc in
        let d : w ≡ v = cc in
        omega arith
    by false rest f = let h = rest f in omega arith

-- a field of any bit of any type lies within the full layout
pub field_fits : (message byte bit : ℕ) {w p : ℕ} {k : Kind} → Field w k p ≡ entry_of message byte bit → p + w ≤ layout_size
unfolding entry_of widths
field_fits message byte bit {w} {p} {k} e = by (eqb message 0x38) (eqb message 0x39) (eqb message 0x25) (eqb message 0x2C) (eqb message 0x26) (eqb message 0x2B) (eqb message 0x3A) (eqb message 0x47) (eqb message 0xB8) (in_list (list_of message) 0 byte bit e)
  where
    by : (b1 b2 b3 b4 b5 b6 b7 b8 b9 : Bool) → p + w ≤ 0 + widths (cond b1 new_order (cond b2 cancel_order (cond b3 acknowledgments (cond b4 executions (cond b5 rejections (cond b6 cancel_rejections (cond b7 modify_order (cond b8 purge_orders (cond b9 options_order [])))))))))
        → p + w ≤ layout_size
    by true b2 b3 b4 b5 b6 b7 b8 b9 h = omega (arith, h)
    by false true b3 b4 b5 b6 b7 b8 b9 h = omega (arith, h)
    by false false true b4 b5 b6 b7 b8 b9 h = omega (arith, h)
    by false false false true b5 b6 b7 b8 b9 h = omega (arith, h)
    by false false false false true b6 b7 b8 b9 h = omega (arith, h)
    by false false false false false true b7 b8 b9 h = omega (arith, h)
    by false false false false false false true b8 b9 h = omega (arith, h)
    by false false false false false false false true b9 h = omega (arith, h)
    by false false false false false false false false true h = omega (arith, h)
    by false false false false false false false false false h = omega (arith, h)
