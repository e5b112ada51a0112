-- One field looked at and one given, on plain values. Assumes nothing.
use mathlib.Core.Path.{◌≡◌, ap, ap₂, ◌∙◌}
use mathlib.Core.List.{List}
use Prim.Native.Nat.{ℕ, ◌+◌, ◌-◌, ◌≤◌}
use native.Mathlib.Omega.{arith}
use lib.ListN.{length, take, drop}
use borrow.Author.Tests.{le-leb}
use Rattle.kinds.specs.declared.Kind.{Kind}
use Rattle.kinds.specs.Kinds.{agrees_of}
use Rattle.numbers.specs.Numbers.{patched}
use Rattle.block.specs.Slots.{zeros}
use Rattle.block.specs.Walk.{worse_of, Looking, look_field, Giving, give_field}

-- ---- a field, which the code has as the part from p to p + w of the layout v

module _ (v : List ℕ) (w p : ℕ) where
  abbrev part : List ℕ
  part = take (p + w - p) (drop p v)

  part_is : part ≡ take w (drop p v)
  part_is = let n : p + w - p ≡ w = omega arith in ap (λ (i : ℕ). take i (drop p v)) n

  -- looked at, and cleared there
  pub looked_is : (k : Kind) (total wrong bad : ℕ) {a : ℕ} {l : List ℕ} → a ≡ worse_of total wrong (agrees_of k part) → l ≡ patched v p (zeros w)
      → ◌≡◌ {A = Looking} (record { total = total + w; wrong = a; bad = bad; rest = l }) (look_field w k p (record { total = total; wrong = wrong; bad = bad; rest = v }))
  looked_is k total wrong bad e f =
      ap₂ (λ (b : ℕ) (x : List ℕ). record { total = total + w; wrong = b; bad = bad; rest = x })
      (e ∙ ap (λ (x : List ℕ). worse_of total wrong (agrees_of k x)) part_is)
      f

  -- given, where the message has room for it
  pub given_is : (st : Giving) {l : List ℕ} → st.at + w ≤ length st.buffer → l ≡ patched st.buffer st.at part
      → ◌≡◌ {A = Giving} (record { at = st.at + w; buffer = l }) (give_field v w p st)
  given_is st {l} h e =
      rw (le-leb (st.at + w) (length st.buffer) h)
      (ap (λ (b : List ℕ). record { at = st.at + w; buffer = b }) (e ∙ ap (patched st.buffer st.at) part_is))
