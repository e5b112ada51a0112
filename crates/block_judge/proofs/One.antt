-- One field judged, on plain values. Assumes nothing.
use mathlib.Core.Path.{◌≡◌, ap, ◌∙◌}
use mathlib.Core.List.{List}
use Prim.Native.Nat.{ℕ, ◌+◌, ◌-◌, ◌≤◌, ◌<◌}
use native.Mathlib.Omega.{arith}
use lib.ListN.{length, take, drop}
use borrow.Author.Tests.{le-leb, lt-leb}
use Rattle.kinds.specs.declared.Kind.{Kind}
use Rattle.kinds.specs.Kinds.{agrees_of}
use Rattle.block.specs.Walk.{worse_of, Judging, judge_field}

module _ (m : List ℕ) (w : ℕ) (k : Kind) (st : Judging) where
  -- the state after a field
  abbrev after : ℕ → Judging
  after a = record { at = st.at + w; wrong = a; bad = st.bad }

  -- a field that the message has no bytes for
  pub past_end : length m < st.at + w → after st.wrong ≡ judge_field m w k st
  past_end h = rw (lt-leb (st.at + w) (length m) h)

  -- a field that is there
  pub there : {a : ℕ} → st.at + w ≤ length m → a ≡ worse_of st.at st.wrong (agrees_of k (take (st.at + w - st.at) (drop st.at m))) → after a ≡ judge_field m w k st
  there h e =
      let n : st.at + w - st.at ≡ w = omega arith in
      ap after (e ∙ ap (λ (i : ℕ). worse_of st.at st.wrong (agrees_of k (take i (drop st.at m)))) n) ∙ rw (le-leb (st.at + w) (length m) h)
