-- What looking finds, over any dictionary: the walk's answer in the words of the slots, and the zero test by clearing. Assumes nothing.
use Rattle.std.specs.Prelude.{◌≡◌, refl, Bool, true, false, cond, ◌&&◌, eqb, length, drop}
use Rattle.std.proofs.Math.Path.{sym, ap}
use Rattle.std.proofs.Common.{ap₂, ◌∙◌, add-zero, take-append-drop, length-drop, drop_at, take_at, length-take-le}
use mathlib.Core.List.{List, [], ◌∷◌, ◌++◌, append_assoc}
use Prim.Native.Nat.{ℕ, suc, ◌+◌, ◌/◌, ◌≤◌, ◌<◌}
use native.Mathlib.Omega.{arith}
use Rattle.std.proofs.Math.ListN.{take, length-append}
use Rattle.std.proofs.Math.Seq.{drop-append-add}
use Rattle.kinds.specs.declared.Kind.{Kind}
use Rattle.kinds.specs.Kinds.{all_nul, agrees_of}
use Rattle.numbers.specs.Numbers.{patched}
use Rattle.dictionary.specs.declared.Entry.{Entry}
use Rattle.dictionary.specs.declared.Entry.TheVariants.{Refused, Field}
use Rattle.block.specs.Slots.{zeros, Slot, slot, width_of, width, takes, sum, bad_byte, wrong_held, zero_elsewhere}
use Rattle.block.specs.SlotLaws.{length-zeros, zeros_are_nul}
use Rattle.block.specs.Places.{byte_at, slots_from}
use Rattle.block.specs.Walk.{pick, walk, first_of, Looking, look_entry}
use Rattle.block.specs.WalkLaws.{walk_slots, first-none, first-here, worse_is}
use Rattle.block.proofs.Dictionaries.{before, Placed}
use Rattle.block.specs.Sizes.{all_places}

-- a slot of a layout, cleared where it is selected
abbrev pub cleared_slot : Slot → List ℕ → List ℕ
cleared_slot (slot true e) v = zeros (width_of e)
cleared_slot (slot false e) v = take (width_of e) v

-- all slots of a layout so, and the bytes after them as they were
abbrev pub cleared : List Slot → List ℕ → List ℕ
cleared [] v = v
cleared (s ∷ ss) v = cleared_slot s v ++ cleared ss (drop (width s) v)

-- what holds after the slots ss from place k on were looked at: from the state st, whose layout is `done` up to place k and v from there
-- on, to the state r
pub record Looked (entry : ℕ → Entry) (ss : List Slot) (k : ℕ) (st r : Looking) : Type 0 where
  pub bad_is : r.bad ≡ first_of st.bad (bad_byte k ss)
  pub total_is : r.total ≡ st.total + sum takes ss
  pub wrong_is : (done v : List ℕ) → st.rest ≡ done ++ v → length done ≡ before entry k → sum width ss ≤ length v → r.wrong ≡ first_of st.wrong (wrong_held st.total ss v)
  pub rest_is : (done v : List ℕ) → st.rest ≡ done ++ v → length done ≡ before entry k → sum width ss ≤ length v → r.rest ≡ done ++ cleared ss v

-- bytes cleared at the end of what is done
clear_next : (done v l : List ℕ) (w p : ℕ) → l ≡ done ++ v → length done ≡ p → patched l p (zeros w) ≡ (done ++ zeros w) ++ drop w v
unfolding patched
clear_next done v l w p e n =
    let z : p + length (zeros w) ≡ length done + w = omega (arith, length-zeros w) in
    ap₂ (λ (a b : List ℕ). a ++ (zeros w ++ b))
    (ap (take p) e ∙ take_at done v p n)
    (ap₂ (λ (i : ℕ) (x : List ℕ). drop i x) z e ∙ drop-append-add done v w)
    ∙ sym (append_assoc done (zeros w) (drop w v))

module _ (entry : ℕ → Entry) (size : ℕ) (ok : Placed entry size) where
  none : (k : ℕ) (st : Looking) → Looked entry [] k st st
  none k st = record { bad_is = sym (first-none st.bad); total_is = omega arith; wrong_is = λ done v e n h. sym (first-none st.wrong); rest_is = λ done v e n h. e }

  -- a slot that takes no byte of a message
  same_total : (st : Looking) (f : ℕ → ℕ) → first_of st.wrong (f st.total) ≡ first_of st.wrong (f (st.total + 0))
  same_total st f = ap (λ (x : ℕ). first_of st.wrong (f x)) (sym (add-zero st.total))

  -- what is done with one slot more
  module _ (k : ℕ) (e : Entry) (q : e ≡ entry k) (done v here : List ℕ) (n : length done ≡ before entry k) (long : length here ≡ width_of e) where
    done_more : length (done ++ here) ≡ before entry (suc k)
    unfolding before
    done_more =
        let b : before entry (suc k) ≡ before entry k + width_of e = ap (λ (x : Entry). before entry k + width_of x) (sym q) in
        length-append done here ∙ omega (arith, b)

  rest-fits : (w n : ℕ) (v : List ℕ) → w + n ≤ length v → n ≤ length (drop w v)
  rest-fits w n v h = simp length-drop (omega arith)

  unselected : (k : ℕ) (e : Entry) (ss : List Slot) (st r : Looking) → e ≡ entry k → Looked entry ss (suc k) st r → Looked entry (slot false e ∷ ss) k st r
  unselected k e ss st r q t = record {
    bad_is = t.bad_is;
    total_is = t.total_is ∙ omega arith;
    wrong_is = λ done v f n h.
        t.wrong_is (done ++ take (width_of e) v) (drop (width_of e) v) (split done v f)
        (done_more k e q done v (take (width_of e) v) n (length-take-le (width_of e) v (omega arith))) (rest-fits (width_of e) (sum width ss) v h)
        ∙ same_total st (λ (x : ℕ). wrong_held x ss (drop (width_of e) v));
    rest_is = λ done v f n h.
        t.rest_is (done ++ take (width_of e) v) (drop (width_of e) v) (split done v f)
        (done_more k e q done v (take (width_of e) v) n (length-take-le (width_of e) v (omega arith))) (rest-fits (width_of e) (sum width ss) v h)
        ∙ append_assoc done (take (width_of e) v) (cleared ss (drop (width_of e) v));
  }
    where
      split : (done v : List ℕ) → st.rest ≡ done ++ v → st.rest ≡ (done ++ take (width_of e) v) ++ drop (width_of e) v
      split done v f = f ∙ ap (λ (x : List ℕ). done ++ x) (sym (take-append-drop (width_of e) v)) ∙ sym (append_assoc done (take (width_of e) v) (drop (width_of e) v))

  -- a set bit that is not listed
  refused : (k : ℕ) (ss : List Slot) (st r : Looking) → Refused ≡ entry k → Looked entry ss (suc k) (look_entry (byte_at k) Refused st) r → Looked entry (slot true Refused ∷ ss) k st r
  unfolding look_entry before
  refused k ss st r q t =
      let b : before entry (suc k) ≡ before entry k = ap (λ (x : Entry). before entry k + width_of x) (sym q) ∙ omega arith in
      record {
        bad_is = t.bad_is ∙ first-here st.bad (k / 8) (bad_byte (suc k) ss);
        total_is = t.total_is ∙ omega arith;
        wrong_is = λ done v f n h. t.wrong_is done v f (n ∙ sym b) (omega arith) ∙ same_total st (λ (x : ℕ). wrong_held x ss v);
        rest_is = λ done v f n h. t.rest_is done v f (n ∙ sym b) (omega arith);
      }

  listed : (k : ℕ) → k < all_places → (w : ℕ) (kd : Kind) (p : ℕ) (ss : List Slot) (st r : Looking) → Field w kd p ≡ entry k
      → Looked entry ss (suc k) (look_entry (byte_at k) (Field w kd p) st) r → Looked entry (slot true (Field w kd p) ∷ ss) k st r
  unfolding look_entry
  listed k small w kd p ss st r q t =
      let there : p ≡ before entry k = ok.placed k small q in
      record {
        bad_is = t.bad_is;
        total_is = t.total_is ∙ omega arith;
        wrong_is = λ done v f n h.
            let later : ℕ = wrong_held (st.total + w) ss (drop w v) in
            let a : take w (drop p st.rest) ≡ take w v = ap (λ (x : List ℕ). take w (drop p x)) f ∙ ap (take w) (drop_at done v p (n ∙ sym there)) in
            t.wrong_is (done ++ zeros w) (drop w v) (clear_next done v st.rest w p f (n ∙ sym there))
            (done_more k (Field w kd p) q done v (zeros w) n (length-zeros w)) (rest-fits w (sum width ss) v h)
            ∙ worse_is st.total st.wrong later (agrees_of kd (take w (drop p st.rest)))
            ∙ ap (λ (x : List ℕ). first_of st.wrong (cond (agrees_of kd x) later (st.total + 1))) a;
        rest_is = λ done v f n h.
            t.rest_is (done ++ zeros w) (drop w v) (clear_next done v st.rest w p f (n ∙ sym there))
            (done_more k (Field w kd p) q done v (zeros w) n (length-zeros w)) (rest-fits w (sum width ss) v h)
            ∙ append_assoc done (zeros w) (cleared ss (drop w v));
      }

  one : (k : ℕ) → k < all_places → (b : Bool) (ss : List Slot) (st r : Looking) → Looked entry ss (suc k) (pick b (look_entry (byte_at k) (entry k) st) st) r → Looked entry (slot b (entry k) ∷ ss) k st r
  one k small b ss st r t = by b (entry k) refl t
    where
      by : (c : Bool) (e : Entry) → e ≡ entry k → Looked entry ss (suc k) (pick c (look_entry (byte_at k) e st) st) r → Looked entry (slot c e ∷ ss) k st r
      by false e q x = unselected k e ss st r q x
      by true Refused q x = refused k ss st r q x
      by true (Field w kd p) q x = listed k small w kd p ss st r q x

  pub looked : (selected : ℕ → Bool) (n k : ℕ) (st : Looking) → k + n ≤ all_places → Looked entry (slots_from selected entry n k) k st (walk selected (λ (i : ℕ). look_entry (byte_at i) (entry i)) n k st)
  looked selected n k st h = walk_slots selected entry look_entry (Looked entry) none one n k st h

-- ---- zero elsewhere, by clearing

nul_append : (a b : List ℕ) → all_nul (a ++ b) ≡ (all_nul a && all_nul b)
nul_append [] b = refl
nul_append (x ∷ a) b = by (eqb x 0) (nul_append a b)
  where
    by : (c : Bool) → all_nul (a ++ b) ≡ (all_nul a && all_nul b) → (c && all_nul (a ++ b)) ≡ ((c && all_nul a) && all_nul b)
    by true h = h
    by false h = refl

-- a layout is zero elsewhere exactly where nothing is left of it once its selected slots are cleared
pub zero_by_clearing : (ss : List Slot) (v : List ℕ) → all_nul (cleared ss v) ≡ zero_elsewhere ss v
zero_by_clearing [] v = refl
zero_by_clearing (slot true e ∷ ss) v =
    nul_append (zeros (width_of e)) (cleared ss (drop (width_of e) v))
    ∙ ap₂ (λ (a b : Bool). a && b) (zeros_are_nul (width_of e)) (zero_by_clearing ss (drop (width_of e) v))
zero_by_clearing (slot false e ∷ ss) v =
    nul_append (take (width_of e) v) (cleared ss (drop (width_of e) v))
    ∙ ap (λ (b : Bool). all_nul (take (width_of e) v) && b) (zero_by_clearing ss (drop (width_of e) v))
