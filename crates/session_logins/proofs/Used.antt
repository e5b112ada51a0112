-- The units that are used, put one after the other into the places of a choice. Assumes nothing.
use mathlib.Core.Path.{◌≡◌, refl, sym, ap, ap₂, ◌∙◌}
use mathlib.Core.Bool.{Bool, true, false}
use mathlib.Core.List.{List, [], ◌∷◌, ◌++◌, append_assoc, append-nil}
use Prim.Native.Nat.{ℕ, suc, ◌+◌, ◌-◌, ◌≤◌, ◌<◌}
use native.Mathlib.Omega.{arith}
use lib.Dec.{ltb}
use lib.ListN.{length, set, replicate, length-append}
use lib.Seq.{set_at}
use borrow.Author.Tests.{lt-ltb, le-ltb}
use Rattle.table.specs.declared.Table.{Table}
use Rattle.table.specs.declared.Unit.{Unit}
use Rattle.table.specs.Table.{last_of}
use Rattle.session_logins.specs.LoginRequests.{only_if, is_used, used_from, filled}
use Rattle.session_logins.proofs.UsedUnits.{used-more, used_few}

abbrev unit : ℕ → Unit
unit u = record { 0 = u }

-- the places of the first i units
pub record Sofar (t : Table) (i : ℕ) (units : List Unit) (count : ℕ) : Type 0 where
  pub many : count ≡ length (used_from t i 1)
  pub are : units ≡ filled (used_from t i 1)

pub none_yet : (t : Table) → Sofar t 0 (filled []) 0
unfolding used_from
none_yet t = record { many = refl; are = refl }

pub few_yet : (t : Table) (i : ℕ) {units : List Unit} {count : ℕ} → Sofar t i units count → count ≤ i
few_yet t i s = omega (arith, s.many, used_few t i 1)

module _ (t : Table) (i : ℕ) {units : List Unit} {count entry : ℕ} (h : i < 32) (s : Sofar t i units count) (e : entry ≡ last_of t (i + 1)) where
  abbrev us : List Unit
  us = used_from t i 1

  more : (b : Bool) → ltb 0 entry ≡ b → used_from t (i + 1) 1 ≡ us ++ only_if b (i + 1) []
  more b g =
      let k : i + 1 ≡ suc i = omega arith in
      let j : 1 + i ≡ i + 1 = omega arith in
      ap (λ (n : ℕ). used_from t n 1) k ∙ used-more t i 1
      ∙ ap (λ (u : ℕ). us ++ only_if (is_used t u) u []) j
      ∙ ap (λ (x : ℕ). us ++ only_if (ltb 0 x) (i + 1) []) (sym e)
      ∙ ap (λ (x : Bool). us ++ only_if x (i + 1) []) g

  -- one whose entry is above 0 comes after them
  pub kept_more : 0 < entry → Sofar t (i + 1) (set units count (unit (i + 1))) (count + 1)
  kept_more z =
      let m = more true (lt-ltb 0 entry z) in
      let n : length (us ++ (unit (i + 1) ∷ [])) ≡ length us + 1 = length-append us (unit (i + 1) ∷ []) in
      let f = used_few t i 1 in
      let k : 32 - length us ≡ suc (32 - (length us + 1)) = omega arith in
      record {
        many = omega (arith, s.many, ap length m, n);
        are = ap₂ (λ (l : List Unit) (c : ℕ). set l c (unit (i + 1))) s.are s.many
            ∙ ap (λ (x : ℕ). set (us ++ replicate x (unit 0)) (length us) (unit (i + 1))) k
            ∙ set_at us (unit 0) (replicate (32 - (length us + 1)) (unit 0)) (unit (i + 1)) (length us) refl
            ∙ sym (append_assoc us (unit (i + 1) ∷ []) (replicate (32 - (length us + 1)) (unit 0)))
            ∙ ap (λ (x : ℕ). (us ++ (unit (i + 1) ∷ [])) ++ replicate (32 - x) (unit 0)) (sym n)
            ∙ ap filled (sym m);
      }

  -- one whose entry is 0 is left out
  pub left_out : entry ≤ 0 → Sofar t (i + 1) units count
  left_out z =
      let m = more false (le-ltb 0 entry z) ∙ append-nil us in
      record { many = s.many ∙ ap length (sym m); are = s.are ∙ ap filled (sym m) }
