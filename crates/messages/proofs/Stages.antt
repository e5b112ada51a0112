-- The stages of reading and of writing one by one: refused, too short, or done. Assumes nothing.
use mathlib.Core.Path.{◌≡◌, refl, sym, ◌∙◌}
use mathlib.Core.Bool.{Bool, true, false, cond}
use mathlib.Core.List.{List}
use Prim.Native.Nat.{ℕ, ◌≤◌, ◌<◌}
use native.Mathlib.Omega.{arith}
use lib.Dec.{eqb}
use lib.ListN.{length}
use borrow.Author.Tests.{eq-eqb, ne_eqb, lt-ltb, le-ltb, eqb-true}
use Rattle.numbers.specs.Numbers.{patched}
use Rattle.messages.specs.Stages.{placed_refusal, placed_record, size_refusal, size_out}

-- ---- reading a message with a refusal and a record of a size into a buffer

module _ (refusal size : ℕ) (bytes buffer : List ℕ) where
  -- what it answers
  abbrev pub Placed : ℕ → List ℕ → Type 0
  Placed n out = (n ≡ placed_refusal refusal size (length buffer)) × (out ≡ placed_record refusal size bytes buffer)

  left : {n : ℕ} → n ≡ placed_refusal refusal size (length buffer) → (n ≡ 0 → ⊥) → Placed n buffer
  unfolding placed_record
  left e k = (e, rw (ne_eqb (placed_refusal refusal size (length buffer)) 0 (λ z. k (e ∙ z))))

  pub judged_stops : {n : ℕ} → n ≡ refusal → (n ≡ 0 → ⊥) → Placed n buffer
  unfolding placed_refusal
  judged_stops {n} e k =
      let q : n ≡ placed_refusal refusal size (length buffer) = rw (ne_eqb refusal 0 (λ z. k (e ∙ z))) e in
      left q k

  pub room_stops : refusal ≡ 0 → length buffer < size → Placed 13 buffer
  unfolding placed_refusal
  room_stops z h =
      let q : 13 ≡ placed_refusal refusal size (length buffer) = rw (eq-eqb refusal 0 z, lt-ltb (length buffer) size h) in
      left q (λ x. omega (arith, x))

  pub roomy_reads : size ≤ length buffer → {n : ℕ} {out : List ℕ} → (n ≡ refusal) × (out ≡ cond (eqb refusal 0) (patched buffer 0 bytes) buffer) → Placed n out
  unfolding placed_refusal placed_record
  roomy_reads h r =
      let q : placed_refusal refusal size (length buffer) ≡ refusal = rw (le-ltb (length buffer) size h) (by (eqb refusal 0) refl) in
      (r.0 ∙ sym q, r.1 ∙ rw q)
    where
      by : (b : Bool) → eqb refusal 0 ≡ b → cond b 0 refusal ≡ refusal
      by true p = sym (eqb-true refusal 0 p)
      by false p = refl

-- ---- writing a record that should be of a size

module _ (size long refusal : ℕ) (after out : List ℕ) where
  -- what it answers
  abbrev pub Sized : ℕ → List ℕ → Type 0
  Sized n out' = (n ≡ size_refusal size long refusal) × (out' ≡ size_out size long after out)

  pub size_stops : long < size → Sized 13 out
  unfolding size_refusal size_out
  size_stops h = (rw (lt-ltb long size h), rw (lt-ltb long size h))

  pub sized-writes : size ≤ long → {n : ℕ} {out' : List ℕ} → (n ≡ refusal) × (out' ≡ after) → Sized n out'
  unfolding size_refusal size_out
  sized-writes h w = (w.0 ∙ rw (le-ltb long size h), w.1 ∙ rw (le-ltb long size h))
