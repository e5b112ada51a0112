-- What storing makes, over any dictionary: the walk's answer in the words of the slots. Assumes nothing.
use Rattle.std.specs.Prelude.{◌≡◌, Bool, ℕ, zero, suc, ◌+◌, ◌-◌, ◌≤◌, ◌<◌, take}
use Rattle.std.proofs.Math.Path.{refl, sym, ap, ap₂}
use Rattle.std.proofs.Common.{◌∙◌, subst, zero-add, length-append, take_at, drop_at, drop-drop, le-leb}
use Rattle.std.proofs.Math.Bool.{true, false}
use mathlib.Core.List.{List, [], ◌∷◌, ◌++◌, append_assoc}
use native.Mathlib.Omega.{arith}
use Rattle.std.proofs.Math.ListN.{length, drop, length-drop}
use Rattle.std.proofs.Math.Seq.{length-take-le}
use Rattle.kinds.specs.declared.Kind.{Kind}
use Rattle.numbers.specs.Numbers.{patched}
use Rattle.dictionary.specs.declared.Entry.{Entry}
use Rattle.dictionary.specs.declared.Entry.TheVariants.{Refused, Field}
use Rattle.block.specs.Slots.{zeros, Slot, slot, width_of, width, takes, sum, spread}
use Rattle.block.specs.SlotLaws.{length-zeros}
use Rattle.block.specs.Places.{slots_from}
use Rattle.block.specs.Walk.{pick, walk, any_byte, Storing, store_entry}
use Rattle.block.specs.WalkLaws.{walk_slots}
use Rattle.block.proofs.Dictionaries.{before, Placed}
use Rattle.block.specs.Sizes.{all_places}

-- what holds after the slots ss from place k on were stored, where the message has their bytes and the layout is zero from place k on: from
-- the state st to the state r
pub record Stored (entry : ℕ → Entry) (m : List ℕ) (ss : List Slot) (k : ℕ) (st r : Storing) : Type 0 where
  pub layout_is : (done : List ℕ) (z : ℕ) → st.at + sum takes ss ≤ length m → length done ≡ before entry k → st.layout ≡ done ++ zeros z → sum width ss ≤ z
      → r.layout ≡ done ++ (spread ss (drop st.at m) ++ zeros (z - sum width ss))

zeros-split : (a b : ℕ) → zeros a ++ zeros b ≡ zeros (a + b)
zeros-split zero b = rw zero-add
zeros-split (suc a) b = let e : suc a + b ≡ suc (a + b) = omega arith in rw e (ap (λ (l : List ℕ). 0 ∷ l) (zeros-split a b))

zeros-more : (w z : ℕ) → w ≤ z → zeros z ≡ zeros w ++ zeros (z - w)
zeros-more w z h = let e : w + (z - w) ≡ z = omega arith in sym (zeros-split w (z - w) ∙ ap (λ (n : ℕ). zeros n) e)

-- a field patched at the end of what is done
patch_next : (done : List ℕ) (w z p : ℕ) (f l : List ℕ) → length f ≡ w → length done ≡ p → w ≤ z → l ≡ done ++ zeros z → patched l p f ≡ (done ++ f) ++ zeros (z - w)
unfolding patched
patch_next done w z p f l lf ld h e =
    let q : l ≡ (done ++ zeros w) ++ zeros (z - w) = e ∙ ap (λ (x : List ℕ). done ++ x) (zeros-more w z h) ∙ sym (append_assoc done (zeros w) (zeros (z - w))) in
    let n : length (done ++ zeros w) ≡ p + length f = length-append done (zeros w) ∙ omega (arith, length-zeros w) in
    ap₂ (λ (a b : List ℕ). a ++ (f ++ b))
    (ap (take p) e ∙ take_at done (zeros z) p ld)
    (ap (drop (p + length f)) q ∙ drop_at (done ++ zeros w) (zeros (z - w)) (p + length f) n)
    ∙ sym (append_assoc done f (zeros (z - w)))

module _ (entry : ℕ → Entry) (size : ℕ) (ok : Placed entry size) (m : List ℕ) where
  none : (k : ℕ) (st : Storing) → Stored entry m [] k st st
  none k st = record { layout_is = λ done z h l e w. let n : z - 0 ≡ z = omega arith in rw n e }

  -- an unselected slot
  unselected : (k : ℕ) (e : Entry) (ss : List Slot) (st r : Storing) → e ≡ entry k → Stored entry m ss (suc k) st r → Stored entry m (slot false e ∷ ss) k st r
  unfolding before
  unselected k e ss st r q t = record {
    layout_is = λ done z h l f w.
        let b : before entry (suc k) ≡ before entry k + width_of e = ap (λ (x : Entry). before entry k + width_of x) (sym q) in
        let n : z - width_of e - sum width ss ≡ z - (width_of e + sum width ss) = omega arith in
        t.layout_is (done ++ zeros (width_of e)) (z - width_of e) (omega arith)
        (length-append done (zeros (width_of e)) ∙ omega (arith, b, length-zeros (width_of e)))
        (f ∙ ap (λ (x : List ℕ). done ++ x) (zeros-more (width_of e) z (omega arith)) ∙ sym (append_assoc done (zeros (width_of e)) (zeros (z - width_of e))))
        (omega arith)
        ∙ append_assoc done (zeros (width_of e)) _
        ∙ ap (λ (x : List ℕ). done ++ x) (sym (append_assoc (zeros (width_of e)) (spread ss (drop st.at m)) _))
        ∙ ap (λ (i : ℕ). done ++ ((zeros (width_of e) ++ spread ss (drop st.at m)) ++ zeros i)) n;
  }

  -- a set bit that is not listed
  refused : (k : ℕ) (ss : List Slot) (st r : Storing) → Refused ≡ entry k → Stored entry m ss (suc k) st r → Stored entry m (slot true Refused ∷ ss) k st r
  unfolding before
  refused k ss st r q t = record {
    layout_is = λ done z h l f w.
        let b : before entry (suc k) ≡ before entry k = ap (λ (x : Entry). before entry k + width_of x) (sym q) ∙ omega arith in
        let n : z - sum width ss ≡ z - (0 + sum width ss) = omega arith in
        t.layout_is done z (omega arith) (l ∙ sym b) f (omega arith)
        ∙ ap (λ (i : ℕ). done ++ (spread ss (drop st.at m) ++ zeros i)) n;
  }

  -- a selected field
  module _ (k : ℕ) (small : k < all_places) (w : ℕ) (kd : Kind) (p : ℕ) (ss : List Slot) (st r : Storing) (q : Field w kd p ≡ entry k) where
    field : List ℕ
    field = take w (drop st.at m)

    after : Storing
    after = record { at = st.at + w; layout = patched st.layout p field }

    selected : Stored entry m ss (suc k) after r → (done : List ℕ) (z : ℕ) → st.at + (w + sum takes ss) ≤ length m → length done ≡ before entry k → st.layout ≡ done ++ zeros z → w + sum width ss ≤ z
        → r.layout ≡ done ++ ((field ++ spread ss (drop w (drop st.at m))) ++ zeros (z - (w + sum width ss)))
    unfolding before field after
    selected t done z h l e v =
        let long : length field ≡ w = length-take-le w (drop st.at m) (simp length-drop (omega arith)) in
        let there : p ≡ before entry k = ok.placed k small q in
        let b : before entry (suc k) ≡ before entry k + w = ap (λ (x : Entry). before entry k + width_of x) (sym q) in
        let d : drop (st.at + w) m ≡ drop w (drop st.at m) = sym (drop-drop w st.at m) in
        let n : z - w - sum width ss ≡ z - (w + sum width ss) = omega arith in
        t.layout_is (done ++ field) (z - w) (omega arith)
        (length-append done field ∙ omega arith)
        (patch_next done w z p field st.layout long (l ∙ sym there) (omega arith) e)
        (omega arith)
        ∙ append_assoc done field _
        ∙ ap (λ (x : List ℕ). done ++ x) (sym (append_assoc field (spread ss (drop (st.at + w) m)) _))
        ∙ ap₂ (λ (x : List ℕ) (i : ℕ). done ++ ((field ++ spread ss x) ++ zeros i)) d n

    listed : Stored entry m ss (suc k) (store_entry m (Field w kd p) st) r → Stored entry m (slot true (Field w kd p) ∷ ss) k st r
    unfolding store_entry field after
    listed t = record {
      layout_is = λ done z h l e v. selected (subst (λ (b : Bool). Stored entry m ss (suc k) (pick b after st) r) (le-leb (st.at + w) (length m) (omega arith)) t) done z h l e v;
    }

  one : (k : ℕ) → k < all_places → (b : Bool) (ss : List Slot) (st r : Storing) → Stored entry m ss (suc k) (pick b (store_entry m (entry k) st) st) r → Stored entry m (slot b (entry k) ∷ ss) k st r
  unfolding store_entry
  one k small b ss st r t = by b (entry k) refl t
    where
      by : (c : Bool) (e : Entry) → e ≡ entry k → Stored entry m ss (suc k) (pick c (store_entry m e st) st) r → Stored entry m (slot c e ∷ ss) k st r
      by false e q x = unselected k e ss st r q x
      by true Refused q x = refused k ss st r q x
      by true (Field w kd p) q x = listed k small w kd p ss st r q x

  pub stored : (selected : ℕ → Bool) (n k : ℕ) (st : Storing) → k + n ≤ all_places → Stored entry m (slots_from selected entry n k) k st (walk selected (λ (i : ℕ). store_entry m (entry i)) n k st)
  stored selected n k st h = walk_slots selected entry (any_byte (store_entry m)) (Stored entry m) none one n k st h
