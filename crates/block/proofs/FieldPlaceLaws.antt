-- The slots of a message in the words of its places, over any dictionary whose fields are placed and any bits set.
--     field-stands        among the optional bytes a selected field begins at the summed widths of all earlier set bits, and in the layout at its
--                         place in the dictionary
--     no_bad_slot         where every set bit is listed, no slot is bad
--     selected-agree      where each selected field agrees with its kind, all slots do
--     zero_where_unset    where every byte of the layout that is in no selected field is zero, the layout is zero elsewhere
-- Assumes nothing.
use Rattle.std.specs.Prelude.{◌≡◌, Bool, cond, ◌&&◌, List, [], ◌∷◌, ◌++◌, ltb, length, get_or, take, drop}
use Rattle.std.proofs.Math.Path.{refl, ap, ap₂}
use Rattle.std.proofs.Common.{sym, ◌∙◌, subst, true≢false, add-zero, get_or-take, get_or-drop, eq-eqb, ltb-true, ltb-false}
use Rattle.std.proofs.Math.Bool.{true, false}
use Prim.Native.Nat.{ℕ, zero, suc, ◌+◌, ◌-◌, ◌≤◌, ◌<◌}
use Rattle.std.proofs.Math.Nat.{zero-add}
use native.Mathlib.Omega.{arith}
use Rattle.std.proofs.Math.ListN.{get_or-eq_default}
use Rattle.std.proofs.Math.Seq.{drop-drop}
use Rattle.kinds.specs.declared.Kind.{Kind}
use Rattle.kinds.specs.Kinds.{all_nul, agrees_of}
use Rattle.dictionary.specs.declared.Entry.{Entry}
use Rattle.dictionary.specs.declared.Entry.TheVariants.{Refused, Field}
use Rattle.block.specs.Slots.{Slot, slot, width_of, width, takes, sum, any_bad, gathered, agree_slot, agree_held, zero_slot, zero_elsewhere}
use Rattle.block.specs.SlotLaws.{sum_append, field_at}
use Rattle.block.specs.Places.{selected_at, entry_at, slots_from, slots_of}
use Rattle.block.specs.FieldPlaces.{widths_before, AllListed, AllAgree, Unselected}
use Rattle.block.proofs.Dictionaries.{before, before-none, Placed, widths_add, before_grows, dictionary_placed, widths_fit}
use Rattle.block.specs.Sizes.{all_places, layout_size}

-- ---- sums and places

-- nothing is set before the first place
pub widths_none : (set : ℕ → Bool) (entry : ℕ → Entry) → widths_before set entry 0 ≡ 0
unfolding widths_before
widths_none set entry = refl

takes_is : (b : Bool) (e : Entry) → takes (slot b e) ≡ cond b (width_of e) 0
takes_is true e = refl
takes_is false e = refl

-- what n slots from k on take, with the widths before, are the widths below k + n
pub takes_add : (set : ℕ → Bool) (entry : ℕ → Entry) (n k : ℕ) → widths_before set entry k + sum takes (slots_from set entry n k) ≡ widths_before set entry (k + n)
unfolding slots_from widths_before
takes_add set entry zero k = ap (λ (x : ℕ). widths_before set entry k + x) refl ∙ add-zero (widths_before set entry k) ∙ ap (widths_before set entry) (sym (add-zero k))
takes_add set entry (suc n) k =
    let e : suc k + n ≡ k + suc n = omega arith in
    let h : widths_before set entry k + cond (set k) (width_of (entry k)) 0 + sum takes (slots_from set entry n (suc k)) ≡ widths_before set entry (suc k + n) = takes_add set entry n (suc k) in
    let t : takes (slot (set k) (entry k)) ≡ cond (set k) (width_of (entry k)) 0 = takes_is (set k) (entry k) in
    omega (arith, h, t) ∙ ap (widths_before set entry) e

-- all that the set bits take
pub takes_all : (set : ℕ → Bool) (entry : ℕ → Entry) (n : ℕ) → sum takes (slots_from set entry n 0) ≡ widths_before set entry n
takes_all set entry n =
    let h = takes_add set entry n 0 in
    let z = widths_none set entry in
    let e : 0 + n ≡ n = zero-add n in
    omega arith ∙ ap (widths_before set entry) e

-- the same bits are set, the same widths stand before
pub widths_same : (set set' : ℕ → Bool) (entry : ℕ → Entry) → ((k : ℕ) → set k ≡ set' k) → (k : ℕ) → widths_before set entry k ≡ widths_before set' entry k
unfolding widths_before
widths_same set set' entry h zero = refl
widths_same set set' entry h (suc k) = ap₂ (λ (x : ℕ) (b : Bool). x + cond b (width_of (entry k)) 0) (widths_same set set' entry h k) (h k)

-- slots are those before a place and those from it on
pub slots_split : (set : ℕ → Bool) (entry : ℕ → Entry) (n m k : ℕ) → slots_from set entry (n + m) k ≡ slots_from set entry n k ++ slots_from set entry m (k + n)
unfolding slots_from
slots_split set entry zero m k = rw (zero-add m, add-zero k)
slots_split set entry (suc n) m k =
    let e : suc n + m ≡ suc (n + m) = omega arith in
    let f : suc k + n ≡ k + suc n = omega arith in
    ap (λ (i : ℕ). slots_from set entry i k) e
    ∙ ap (λ (l : List Slot). slot (set k) (entry k) ∷ l) (slots_split set entry n m (suc k) ∙ ap (λ (i : ℕ). slots_from set entry n (suc k) ++ slots_from set entry m i) f)

-- ---- where a field stands

module _ (message count : ℕ) (bits : List ℕ) (k : ℕ) (small : k < all_places) (chosen : selected_at count bits k ≡ true) {w p : ℕ} {kind : Kind} (listed : Field w kind p ≡ entry_at message k) where
  earlier : List Slot
  earlier = slots_from (selected_at count bits) (entry_at message) k 0

  later : List Slot
  later = slots_from (selected_at count bits) (entry_at message) (all_places - suc k) (suc k)

  around : slots_of message count bits ≡ earlier ++ (slot true (Field w kind p) ∷ later)
  unfolding slots_from earlier later
  around =
      let e : k + suc (all_places - suc k) ≡ all_places = omega arith in
      let z : 0 + k ≡ k = zero-add k in
      ap (λ (n : ℕ). slots_from (selected_at count bits) (entry_at message) n 0) (sym e)
      ∙ slots_split (selected_at count bits) (entry_at message) k (suc (all_places - suc k)) 0
      ∙ ap (λ (i : ℕ). earlier ++ slots_from (selected_at count bits) (entry_at message) (suc (all_places - suc k)) i) z
      ∙ ap₂ (λ (b : Bool) (x : Entry). earlier ++ (slot b x ∷ later)) chosen (sym listed)

  earlier_takes : sum takes earlier ≡ widths_before (selected_at count bits) (entry_at message) k
  unfolding earlier
  earlier_takes = takes_all (selected_at count bits) (entry_at message) k

  earlier_width : sum width earlier ≡ p
  unfolding earlier
  earlier_width =
      let h = widths_add (selected_at count bits) (entry_at message) k 0 in
      let z = before-none (entry_at message) in
      let e : before (entry_at message) (0 + k) ≡ before (entry_at message) k = ap (before (entry_at message)) (zero-add k) in
      let q : p ≡ before (entry_at message) k = (dictionary_placed message).placed k small listed in
      omega arith

  -- a selected field lies within the layout, and within the optional bytes
  pub field_held : p + w ≤ layout_size
  field_held =
      let s : sum width (slots_of message count bits) ≡ sum width earlier + sum width (slot true (Field w kind p) ∷ later) = ap (sum width) around ∙ sum_append width earlier (slot true (Field w kind p) ∷ later) in
      omega (arith, s, earlier_width, widths_fit message count bits)

  pub field_sent : widths_before (selected_at count bits) (entry_at message) k + w ≤ sum takes (slots_of message count bits)
  field_sent =
      let s : sum takes (slots_of message count bits) ≡ sum takes earlier + sum takes (slot true (Field w kind p) ∷ later) = ap (sum takes) around ∙ sum_append takes earlier (slot true (Field w kind p) ∷ later) in
      omega (arith, s, earlier_takes)

  -- FIELD STANDS: of the bytes that a layout v gives, those from the summed widths of all earlier set bits on are those of the field's place in v
  pub field_stands : (v : List ℕ) → layout_size ≤ length v
      → take w (drop (widths_before (selected_at count bits) (entry_at message) k) (gathered (slots_of message count bits) v)) ≡ take w (drop p v)
  field_stands v h =
      ap₂ (λ (n : ℕ) (ss : List Slot). take w (drop n (gathered ss v))) (sym earlier_takes) around
      ∙ field_at (Field w kind p) later earlier v (omega (arith, earlier_width, field_held))
      ∙ ap (λ (n : ℕ). take w (drop n v)) earlier_width

-- ---- bytes that are zero one by one

-- bytes that are each zero are all NUL
pub nul_each : (l : List ℕ) → ((i : ℕ) → get_or l i 0 ≡ 0) → all_nul l ≡ true
nul_each [] h = refl
nul_each (b ∷ l) h = ap₂ (λ (x y : Bool). x && y) (eq-eqb b 0 (h 0)) (nul_each l (λ i. h (suc i)))

-- no more bytes than are taken
taken-most : (n : ℕ) (l : List ℕ) → length (take n l) ≤ n
taken-most zero l = omega arith
taken-most (suc n) [] = omega arith
taken-most (suc n) (x ∷ l) = let r = taken-most n l in omega arith

-- w bytes from place b on that are each zero
pub nul_part : (w b : ℕ) (v : List ℕ) → ((i : ℕ) → b ≤ i → i < b + w → get_or v i 0 ≡ 0) → all_nul (take w (drop b v)) ≡ true
nul_part w b v h = nul_each (take w (drop b v)) (λ i. by i (ltb i w) refl)
  where
    by : (i : ℕ) (t : Bool) → ltb i w ≡ t → get_or (take w (drop b v)) i 0 ≡ 0
    by i true e = let l = ltb-true i w e in get_or-take w (drop b v) i 0 l ∙ get_or-drop b v i 0 ∙ h (b + i) (omega arith) (omega arith)
    by i false e = let l = ltb-false i w e in let m = taken-most w (drop b v) in get_or-eq_default (take w (drop b v)) 0 (omega arith)

-- all bytes from place b on
pub nul_rest : (b : ℕ) (v : List ℕ) → ((i : ℕ) → b ≤ i → get_or v i 0 ≡ 0) → all_nul (drop b v) ≡ true
nul_rest b v h = nul_each (drop b v) (λ i. get_or-drop b v i 0 ∙ h (b + i) (omega arith))

-- ---- slots by their places

module _ (set : ℕ → Bool) (entry : ℕ → Entry) where
  -- NO BAD SLOT: where every set bit is listed
  pub no_bad_slot : AllListed set entry → (n k : ℕ) → any_bad (slots_from set entry n k) ≡ false
  unfolding slots_from
  no_bad_slot h zero k = refl
  no_bad_slot h (suc n) k = by (set k) refl (entry k) refl (no_bad_slot h n (suc k))
    where
      by : (b : Bool) → set k ≡ b → (e : Entry) → entry k ≡ e → any_bad (slots_from set entry n (suc k)) ≡ false → any_bad (slot b e ∷ slots_from set entry n (suc k)) ≡ false
      by true p Refused q r = absurd (h k p q)
      by true p (Field w kind at) q r = r
      by false p e q r = r

  module _ (size : ℕ) (ok : Placed entry size) (v : List ℕ) where
    -- the widths below the place after k
    before-one : (k : ℕ) → before entry (suc k) ≡ before entry k + width_of (entry k)
    unfolding before
    before-one k = refl

    -- the layout after the slot at k
    next : (k : ℕ) → drop (width_of (entry k)) (drop (before entry k) v) ≡ drop (before entry (suc k)) v
    unfolding before
    next k = drop-drop (width_of (entry k)) (before entry k) v

    -- SELECTED AGREE: where each selected field agrees with its kind
    pub selected_agree : AllAgree set entry v → (n k : ℕ) → k + n ≤ all_places → agree_held (slots_from set entry n k) (drop (before entry k) v) ≡ true
    unfolding slots_from
    selected_agree h zero k l = refl
    selected_agree h (suc n) k l =
        ap₂ (λ (a b : Bool). a && b) (by (set k) refl (entry k) refl) (ap (agree_held (slots_from set entry n (suc k))) (next k) ∙ selected_agree h n (suc k) (omega arith))
      where
        by : (b : Bool) → set k ≡ b → (e : Entry) → entry k ≡ e → agree_slot (slot b e) (drop (before entry k) v) ≡ true
        by true p Refused q = refl
        by true p (Field w kind at) q =
            let there : at ≡ before entry k = ok.placed k (omega arith) (sym q) in
            ap (λ (i : ℕ). agrees_of kind (take w (drop i v))) (sym there) ∙ h k w at kind p (sym q)
        by false p e q = refl

    -- the bytes of place k's slot are in no field of another place
    apart : (k j : ℕ) → j < all_places → (k ≡ j → ⊥) → (i : ℕ) → before entry k ≤ i → i < before entry k + width_of (entry k) → (w p : ℕ) (kind : Kind) → Field w kind p ≡ entry j → p ≤ i → i < p + w → ⊥
    unfolding before
    apart k j small other i low high w p kind q least most = by (ltb k j) refl
      where
        there : p ≡ before entry j
        there = ok.placed j small q

        wide : width_of (entry j) ≡ w
        wide = ap width_of (sym q)

        by : (t : Bool) → ltb k j ≡ t → ⊥
        by true e =
            let l = ltb-true k j e in
            let s : suc k + (j - suc k) ≡ j = omega arith in
            let g = before_grows entry (j - suc k) (suc k) in
            let g' : before entry (suc k) ≤ before entry j = subst (λ (n : ℕ). before entry (suc k) ≤ before entry n) s g in
            omega (arith, there)
        by false e =
            let l = ltb-false k j e in
            let s : suc j + (k - suc j) ≡ k = omega (arith, other) in
            let g = before_grows entry (k - suc j) (suc j) in
            let g' : before entry (suc j) ≤ before entry k = subst (λ (n : ℕ). before entry (suc j) ≤ before entry n) s g in
            omega (arith, there, wide)

    module _ (bound : (j : ℕ) → set j ≡ true → j < all_places) where
      -- no selected field has a byte of an unselected slot, or one after the last slot
      slot_unselected : (k : ℕ) → set k ≡ false → (i : ℕ) → before entry k ≤ i → i < before entry k + width_of (entry k) → Unselected set entry i
      slot_unselected k off i low high j w p kind on q least most =
          apart k j (bound j on) (λ (e : k ≡ j). true≢false (sym on ∙ ap set (sym e) ∙ off)) i low high w p kind q least most

      rest_unselected : (i : ℕ) → before entry all_places ≤ i → Unselected set entry i
      rest_unselected i low j w p kind on q least most =
          let small : j < all_places = bound j on in
          let there : p ≡ before entry j = ok.placed j small q in
          let wide : width_of (entry j) ≡ w = ap width_of (sym q) in
          let b : before entry (suc j) ≡ before entry j + width_of (entry j) = before-one j in
          let s : suc j + (all_places - suc j) ≡ all_places = omega arith in
          let g : before entry (suc j) ≤ before entry all_places = subst (λ (n : ℕ). before entry (suc j) ≤ before entry n) s (before_grows entry (all_places - suc j) (suc j)) in
          omega arith

      -- ZERO WHERE UNSET: where every byte of the layout that is in no selected field is zero
      pub zero_where_unset : ((i : ℕ) → Unselected set entry i → get_or v i 0 ≡ 0) → (n k : ℕ) → k + n ≡ all_places → zero_elsewhere (slots_from set entry n k) (drop (before entry k) v) ≡ true
      unfolding slots_from
      zero_where_unset h zero k e =
          let q : k ≡ all_places = omega arith in
          ap (λ (j : ℕ). all_nul (drop (before entry j) v)) q ∙ nul_rest (before entry all_places) v (λ i l. h i (rest_unselected i l))
      zero_where_unset h (suc n) k e =
          ap₂ (λ (a b : Bool). a && b) (by (set k) refl) (ap (zero_elsewhere (slots_from set entry n (suc k))) (next k) ∙ zero_where_unset h n (suc k) (omega arith))
        where
          by : (b : Bool) → set k ≡ b → zero_slot (slot b (entry k)) (drop (before entry k) v) ≡ true
          by true p = refl
          by false p = nul_part (width_of (entry k)) (before entry k) v (λ i l m. h i (slot_unselected k p i l m))
