-- What giving makes, over any dictionary: the walk's answer in the words of the slots. Assumes nothing.
use Rattle.std.specs.Prelude.{◌≡◌, Bool}
use Rattle.std.proofs.Math.Path.{refl, sym, ap, ap₂}
use Rattle.std.proofs.Common.{◌∙◌, subst, take-append-drop, drop-drop, le-leb}
use Rattle.std.proofs.Math.Bool.{true, false}
use mathlib.Core.List.{List, [], ◌∷◌, ◌++◌}
use Prim.Native.Nat.{ℕ, suc, ◌+◌, ◌-◌, ◌≤◌, ◌<◌}
use native.Mathlib.Omega.{arith}
use Rattle.std.proofs.Math.ListN.{length, take, drop, length-drop}
use Rattle.std.proofs.Math.Seq.{length-take-le}
use Rattle.kinds.specs.declared.Kind.{Kind}
use Rattle.numbers.specs.Numbers.{patched}
use Rattle.numbers.specs.NumberLaws.{patched-length, patched_join}
use Rattle.dictionary.specs.declared.Entry.{Entry}
use Rattle.dictionary.specs.declared.Entry.TheVariants.{Refused, Field}
use Rattle.block.specs.Slots.{Slot, slot, width_of, width, takes, sum, gathered}
use Rattle.block.specs.Places.{slots_from}
use Rattle.block.specs.Walk.{pick, walk, any_byte, Giving, give_entry}
use Rattle.block.specs.WalkLaws.{walk_slots}
use Rattle.block.proofs.Dictionaries.{before, Placed}
use Rattle.block.specs.Sizes.{all_places}

-- what holds after the slots ss from place k on were given, with room for them: from the state st to the state r
pub record Gave (entry : ℕ → Entry) (v : List ℕ) (ss : List Slot) (k : ℕ) (st r : Giving) : Type 0 where
  pub buffer_is : before entry k + sum width ss ≤ length v → st.at + sum takes ss ≤ length st.buffer → r.buffer ≡ patched st.buffer st.at (gathered ss (drop (before entry k) v))

patched-none : (xs : List ℕ) (i : ℕ) → xs ≡ patched xs i []
unfolding patched
patched-none xs i = let e : i + 0 ≡ i = omega arith in rw e (sym (take-append-drop i xs))

module _ (entry : ℕ → Entry) (size : ℕ) (ok : Placed entry size) (v : List ℕ) where
  none : (k : ℕ) (st : Giving) → Gave entry v [] k st st
  none k st = record { buffer_is = λ h l. patched-none st.buffer st.at }

  -- the layout after the slot at k
  next : (k : ℕ) (e : Entry) → e ≡ entry k → drop (before entry (suc k)) v ≡ drop (width_of e) (drop (before entry k) v)
  unfolding before
  next k e q = ap (λ (x : Entry). drop (before entry k + width_of x) v) (sym q) ∙ sym (drop-drop (width_of e) (before entry k) v)

  -- a slot that gives nothing
  nothing : (k : ℕ) (b : Bool) (e : Entry) (ss : List Slot) (st r : Giving) → e ≡ entry k → takes (slot b e) ≡ 0 → gathered (slot b e ∷ ss) (drop (before entry k) v) ≡ gathered ss (drop (width_of e) (drop (before entry k) v))
      → Gave entry v ss (suc k) st r → Gave entry v (slot b e ∷ ss) k st r
  unfolding before
  nothing k b e ss st r q z g t = record {
    buffer_is = λ h l.
        let n : before entry (suc k) ≡ before entry k + width_of e = ap (λ (x : Entry). before entry k + width_of x) (sym q) in
        t.buffer_is (omega arith) (omega arith) ∙ ap (λ (x : List ℕ). patched st.buffer st.at (gathered ss x)) (next k e q) ∙ ap (patched st.buffer st.at) (sym g);
  }

  module _ (k : ℕ) (small : k < all_places) (w : ℕ) (kd : Kind) (p : ℕ) (ss : List Slot) (st r : Giving) (q : Field w kd p ≡ entry k) where
    after : Giving
    after = record { at = st.at + w; buffer = patched st.buffer st.at (take w (drop p v)) }

    given : (before entry k + (w + sum width ss) ≤ length v) → st.at + (w + sum takes ss) ≤ length st.buffer → Gave entry v ss (suc k) after r
        → r.buffer ≡ patched st.buffer st.at (take w (drop (before entry k) v) ++ gathered ss (drop w (drop (before entry k) v)))
    unfolding before after
    given h l t =
        let there : p ≡ before entry k = ok.placed k small q in
        let f : List ℕ = take w (drop p v) in
        let g : List ℕ = gathered ss (drop (before entry (suc k)) v) in
        let n : before entry (suc k) ≡ before entry k + w = ap (λ (x : Entry). before entry k + width_of x) (sym q) in
        let d : length (drop p v) ≡ length v - p = length-drop p v in
        let long : length f ≡ w = length-take-le w (drop p v) (omega arith) in
        let room : st.at + length f ≤ length st.buffer = omega arith in
        let same : length (patched st.buffer st.at f) ≡ length st.buffer = patched-length st.buffer st.at f room in
        let e : st.at + w ≡ st.at + length f = omega arith in
        t.buffer_is (omega arith) (omega arith)
        ∙ ap (λ (i : ℕ). patched (patched st.buffer st.at f) i g) e
        ∙ patched_join st.buffer st.at f room g
        ∙ ap₂ (λ (x y : List ℕ). patched st.buffer st.at (take w x ++ gathered ss y)) (ap (λ (i : ℕ). drop i v) there) (next k (Field w kd p) q)

    listed : Gave entry v ss (suc k) (give_entry v (Field w kd p) st) r → Gave entry v (slot true (Field w kd p) ∷ ss) k st r
    unfolding give_entry after
    listed t = record {
      buffer_is = λ h l. given h l (subst (λ (b : Bool). Gave entry v ss (suc k) (pick b after st) r) (le-leb (st.at + w) (length st.buffer) (omega arith)) t);
    }

  one : (k : ℕ) → k < all_places → (b : Bool) (ss : List Slot) (st r : Giving) → Gave entry v ss (suc k) (pick b (give_entry v (entry k) st) st) r → Gave entry v (slot b (entry k) ∷ ss) k st r
  unfolding give_entry
  one k small b ss st r t = by b (entry k) refl t
    where
      by : (c : Bool) (e : Entry) → e ≡ entry k → Gave entry v ss (suc k) (pick c (give_entry v e st) st) r → Gave entry v (slot c e ∷ ss) k st r
      by false e q x = nothing k false e ss st r q refl refl x
      by true Refused q x = nothing k true Refused ss st r q refl refl x
      by true (Field w kd p) q x = listed k small w kd p ss st r q x

  pub gave : (selected : ℕ → Bool) (n k : ℕ) (st : Giving) → k + n ≤ all_places → Gave entry v (slots_from selected entry n k) k st (walk selected (λ (i : ℕ). give_entry v (entry i)) n k st)
  gave selected n k st h = walk_slots selected entry (any_byte (give_entry v)) (Gave entry v) none one n k st h
