-- The first bad bit, kept byte by byte: within a byte every bad bit puts the same number, so that what was found before is asked once, at the byte's end.
-- Over any state that keeps such a number. Assumes nothing.
use Rattle.std.specs.Prelude.{◌≡◌, Bool, cond, ◌||◌, List, eqb}
use Rattle.std.proofs.Math.Path.{refl, sym, ap}
use Rattle.std.proofs.Common.{◌∙◌, arith}
use Rattle.std.proofs.Math.Bool.{true, false}
use Prim.Native.Nat.{ℕ, zero, suc, ◌+◌, ◌-◌, ◌/◌, ◌%◌, ◌≤◌}
use Rattle.kinds.specs.declared.Kind.{Kind}
use Rattle.dictionary.specs.declared.Entry.{Entry}
use Rattle.dictionary.specs.declared.Entry.TheVariants.{Refused, Field}
use Rattle.dictionary.specs.Dictionary.{entry_of}
use Rattle.block.specs.Slots.{slot, bad_slot}
use Rattle.block.specs.Walk.{pick, bits_from, in_byte, first_of, Judging, judge_field, judge_entry, judge_here, Looking, look_field, look_entry, look_here}
use Rattle.block.specs.WalkLaws.{first-none, first-here}

-- whether one of n bits of a byte from bit i on is set and not listed; x is what is left of the byte there
unfoldable bad_in : ℕ → ℕ → ℕ → ℕ → ℕ → Bool
bad_in message byte zero i x = false
bad_in message byte (suc n) i x = bad_slot (slot (eqb (x % 2) 1) (entry_of message byte i)) || bad_in message byte n (suc i) (x / 2)

-- what a listed bit does to a state
abbrev fields_only : {S : Type 0} → (ℕ → Kind → ℕ → S → S) → Entry → S → S
fields_only field Refused st = st
fields_only field (Field w k p) st = field w k p st

-- a state with another number, and a change by which a bad bit puts a number that stays, and a field leaves it
module _ {S : Type 0} (put : S → ℕ → S) (field : ℕ → Kind → ℕ → S → S) (hit : ℕ → ℕ) (again : (n : ℕ) → hit (hit n) ≡ hit n) (change : Entry → S → S)
    (at-refused : (st : S) (n : ℕ) → change Refused (put st n) ≡ put st (hit n))
    (at_field : (w : ℕ) (k : Kind) (p : ℕ) (st : S) (n : ℕ) → change (Field w k p) (put st n) ≡ put (field w k p st) n) (message byte : ℕ) where
  stays : (b : Bool) (n : ℕ) → cond b (hit (hit n)) (hit n) ≡ hit n
  stays true n = again n
  stays false n = refl

  -- the number after n bits: put where one of them is bad
  in_one : (n i x : ℕ) (st : S) (b : ℕ) → bits_from change message byte n i x (put st b) ≡ put (bits_from (fields_only field) message byte n i x st) (cond (bad_in message byte n i x) (hit b) b)
  unfolding bits_from bad_in
  in_one zero i x st b = refl
  in_one (suc n) i x st b = by (eqb (x % 2) 1) (entry_of message byte i) (λ s c. in_one n (suc i) (x / 2) s c)
    where
      by : (set : Bool) (e : Entry)
          → ((s : S) (c : ℕ) → bits_from change message byte n (suc i) (x / 2) (put s c) ≡ put (bits_from (fields_only field) message byte n (suc i) (x / 2) s) (cond (bad_in message byte n (suc i) (x / 2)) (hit c) c))
          → bits_from change message byte n (suc i) (x / 2) (pick set (change e (put st b)) (put st b))
          ≡ put (bits_from (fields_only field) message byte n (suc i) (x / 2) (pick set (fields_only field e st) st)) (cond (bad_slot (slot set e) || bad_in message byte n (suc i) (x / 2)) (hit b) b)
      by false e more = more st b
      by true Refused more =
          ap (bits_from change message byte n (suc i) (x / 2)) (at-refused st b)
          ∙ more st (hit b)
          ∙ ap (put (bits_from (fields_only field) message byte n (suc i) (x / 2) st)) (stays (bad_in message byte n (suc i) (x / 2)) b)
      by true (Field w k p) more = ap (bits_from change message byte n (suc i) (x / 2)) (at_field w k p st b) ∙ more (field w k p st) b

-- ---- the two numbers that are put

-- the byte's, where nothing was found before
first-again : (byte : ℕ) → 1 ≤ byte → (n : ℕ) → first_of (first_of n byte) byte ≡ first_of n byte
first-again byte h n =
    let e : byte ≡ byte - 1 + 1 = omega (arith, h) in
    ap (λ (x : ℕ). first_of (first_of n x) byte) e ∙ first-here n (byte - 1) byte ∙ ap (first_of n) (sym e)

-- asked once at the end
at_end : (bad : Bool) (found byte : ℕ) → cond bad (first_of found byte) found ≡ first_of found (cond bad byte 0)
at_end true found byte = refl
at_end false found byte = sym (first-none found)

-- ---- judging, and looking

abbrev judged_put : Judging → ℕ → Judging
judged_put st n = record { at = st.at; wrong = st.wrong; bad = n }

abbrev looked_put : Looking → ℕ → Looking
looked_put st n = record { total = st.total; wrong = st.wrong; bad = n; rest = st.rest }

module _ (message byte : ℕ) (h : 1 ≤ byte) (value : ℕ) where
  pub judge_byte : (m : List ℕ) (st r : Judging) → r ≡ in_byte (judge_here m byte) message byte value (record { at = st.at; wrong = st.wrong; bad = 0 })
      → ◌≡◌ {A = Judging} (record { at = r.at; wrong = r.wrong; bad = first_of st.bad r.bad }) (in_byte (judge_entry m byte) message byte value st)
  unfolding judge_entry judge_here
  judge_byte m st r e =
      let bad = bad_in message byte 8 0 value in
      let rest = bits_from (fields_only (λ (w : ℕ) (k : Kind) (p : ℕ). judge_field m w k)) message byte 8 0 value st in
      let here = e ∙ in_one judged_put (λ (w : ℕ) (k : Kind) (p : ℕ). judge_field m w k) (λ (n : ℕ). byte) (λ n. refl) (judge_here m byte) (λ s n. refl) (λ w k p s n. refl) message byte 8 0 value st 0 in
      let all = in_one judged_put (λ (w : ℕ) (k : Kind) (p : ℕ). judge_field m w k) (λ (n : ℕ). first_of n byte) (first-again byte h) (judge_entry m byte) (λ s n. refl) (λ w k p s n. refl) message byte 8 0 value st st.bad in
      ap (λ (x : Judging). judged_put x (first_of st.bad x.bad)) here ∙ ap (judged_put rest) (sym (at_end bad st.bad byte)) ∙ sym all

  pub look_byte : (st r : Looking) → r ≡ in_byte (look_here byte) message byte value (record { total = st.total; wrong = st.wrong; bad = 0; rest = st.rest })
      → ◌≡◌ {A = Looking} (record { total = r.total; wrong = r.wrong; bad = first_of st.bad r.bad; rest = r.rest }) (in_byte (look_entry byte) message byte value st)
  unfolding look_entry look_here
  look_byte st r e =
      let bad = bad_in message byte 8 0 value in
      let rest = bits_from (fields_only look_field) message byte 8 0 value st in
      let here = e ∙ in_one looked_put look_field (λ (n : ℕ). byte) (λ n. refl) (look_here byte) (λ s n. refl) (λ w k p s n. refl) message byte 8 0 value st 0 in
      let all = in_one looked_put look_field (λ (n : ℕ). first_of n byte) (first-again byte h) (look_entry byte) (λ s n. refl) (λ w k p s n. refl) message byte 8 0 value st st.bad in
      ap (λ (x : Looking). looked_put x (first_of st.bad x.bad)) here ∙ ap (looked_put rest) (sym (at_end bad st.bad byte)) ∙ sym all
