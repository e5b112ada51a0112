-- What judging finds, over any dictionary: the walk's answer in the words of the slots. Assumes nothing.
use Rattle.std.specs.Prelude.{◌≡◌, Bool, true, false, cond, length, drop}
use Rattle.std.proofs.Math.Path.{ap}
use Rattle.std.proofs.Common.{◌∙◌, sym, add-zero, arith, drop-drop, le-leb}
use mathlib.Core.List.{List, [], ◌∷◌}
use Prim.Native.Nat.{ℕ, suc, ◌+◌, ◌/◌, ◌≤◌, ◌<◌}
use Rattle.std.proofs.Math.ListN.{take}
use Rattle.kinds.specs.declared.Kind.{Kind}
use Rattle.kinds.specs.Kinds.{agrees_of}
use Rattle.dictionary.specs.declared.Entry.{Entry}
use Rattle.dictionary.specs.declared.Entry.TheVariants.{Refused, Field}
use Rattle.block.specs.Slots.{Slot, slot, takes, sum, bad_byte, wrong_sent}
use Rattle.block.specs.Places.{byte_at, slots_from}
use Rattle.block.specs.Walk.{pick, walk, first_of, worse_of, Judging, judge_entry}
use Rattle.block.specs.WalkLaws.{walk_slots, first-none, first-here, worse_is}
use Rattle.block.specs.Sizes.{all_places}

-- what holds after the slots ss were judged: from the state st to the state r
pub record Judged (m : List ℕ) (ss : List Slot) (k : ℕ) (st r : Judging) : Type 0 where
  pub bad_is : r.bad ≡ first_of st.bad (bad_byte k ss)
  pub at_is : r.at ≡ st.at + sum takes ss
  pub wrong_is : st.at + sum takes ss ≤ length m → r.wrong ≡ first_of st.wrong (wrong_sent st.at ss (drop st.at m))

module _ (m : List ℕ) where
  none : (k : ℕ) (st : Judging) → Judged m [] k st st
  none k st = record { bad_is = sym (first-none st.bad); at_is = omega arith; wrong_is = λ h. sym (first-none st.wrong) }

  -- a slot that is not selected
  unselected : (k : ℕ) (e : Entry) (ss : List Slot) (st r : Judging) → Judged m ss (suc k) st r → Judged m (slot false e ∷ ss) k st r
  unselected k e ss st r t = record {
    bad_is = t.bad_is;
    at_is = t.at_is ∙ omega arith;
    wrong_is = λ h. t.wrong_is (omega arith) ∙ ap (λ (n : ℕ). first_of st.wrong (wrong_sent n ss (drop st.at m))) (sym (add-zero st.at));
  }

  -- a set bit that is not listed
  refused : (k : ℕ) (ss : List Slot) (st r : Judging) → Judged m ss (suc k) (judge_entry m (byte_at k) Refused st) r → Judged m (slot true Refused ∷ ss) k st r
  unfolding judge_entry
  refused k ss st r t = record {
    bad_is = t.bad_is ∙ first-here st.bad (k / 8) (bad_byte (suc k) ss);
    at_is = t.at_is ∙ omega arith;
    wrong_is = λ h. t.wrong_is (omega arith) ∙ ap (λ (n : ℕ). first_of st.wrong (wrong_sent n ss (drop st.at m))) (sym (add-zero st.at));
  }

  -- a selected field
  listed : (k w : ℕ) (kd : Kind) (p : ℕ) (ss : List Slot) (st r : Judging) → Judged m ss (suc k) (judge_entry m (byte_at k) (Field w kd p) st) r → Judged m (slot true (Field w kd p) ∷ ss) k st r
  unfolding judge_entry
  listed k w kd p ss st r t = record {
    bad_is = t.bad_is;
    at_is = t.at_is ∙ omega arith;
    wrong_is = λ h.
        let f : List ℕ = take w (drop st.at m) in
        let later : ℕ = wrong_sent (st.at + w) ss (drop (st.at + w) m) in
        t.wrong_is (omega arith)
        ∙ ap (λ (b : Bool). first_of (pick b (worse_of st.at st.wrong (agrees_of kd f)) st.wrong) later) (le-leb (st.at + w) (length m) (omega arith))
        ∙ worse_is st.at st.wrong later (agrees_of kd f)
        ∙ ap (λ (x : List ℕ). first_of st.wrong (cond (agrees_of kd f) (wrong_sent (st.at + w) ss x) (st.at + 1))) (sym (drop-drop w st.at m));
  }

  one : (entry : ℕ → Entry) (k : ℕ) → k < all_places → (b : Bool) (ss : List Slot) (st r : Judging) → Judged m ss (suc k) (pick b (judge_entry m (byte_at k) (entry k) st) st) r → Judged m (slot b (entry k) ∷ ss) k st r
  one entry k small b ss st r t = by b (entry k) t
    where
      by : (c : Bool) (e : Entry) → Judged m ss (suc k) (pick c (judge_entry m (byte_at k) e st) st) r → Judged m (slot c e ∷ ss) k st r
      by false e x = unselected k e ss st r x
      by true Refused x = refused k ss st r x
      by true (Field w kd p) x = listed k w kd p ss st r x

  pub judged : (selected : ℕ → Bool) (entry : ℕ → Entry) (n k : ℕ) (st : Judging) → k + n ≤ all_places
      → Judged m (slots_from selected entry n k) k st (walk selected (λ (i : ℕ). judge_entry m (byte_at i) (entry i)) n k st)
  judged selected entry n k st h = walk_slots selected entry (judge_entry m) (Judged m) none (one entry) n k st h
