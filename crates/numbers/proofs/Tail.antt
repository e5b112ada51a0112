-- Bytes put into the front of a lent tail, and the tail back in its place: one law for every width.
-- Assumes nothing.
use mathlib.Core.Path.{◌≡◌, refl, sym, ap, ap₂, ◌∙◌}
use mathlib.Core.List.{List, [], ◌∷◌, ◌++◌, append-nil}
use mathlib.Core.Logic.{◌⊎◌, inl, inr, ⊎_elim}
use mathlib.Core.Bool.{Bool, true, false}
use lib.Dec.{leb}
use Prim.Native.Nat.{ℕ, ◌+◌, ◌-◌, ◌≤◌, ◌<◌}
use native.Mathlib.Omega.{arith}
use lib.ListN.{length, take, drop, set, length-drop, take-append-drop, drop_of_length-le}
use lib.Seq.{take_all, drop-drop}
use borrow.Author.Tests.{leb-true, leb-false}
use Rattle.std.specs.Prelude.{Err, Result, ⊤}
use Rattle.refusals.specs.Outcomes.{outcome, outcome_with}
use Rattle.numbers.specs.Numbers.{patched, put_refusal, put_buffer}
use Rattle.numbers.specs.NumberLaws.{put-takes, put_stores, put_refuses, put_keeps, patched-length, patched_join}

le_by : (b : Bool) (i j : ℕ) → leb i j ≡ b → (i ≤ j) ⊎ (j < i)
le_by true i j e = inl (leb-true i j e)
le_by false i j e = inr (leb-false i j e)

-- the tail that a part `&s[a..]` is
pub tail_is : (xs : List ℕ) (a : ℕ) → a ≤ length xs → take (length xs - a) (drop a xs) ≡ drop a xs
tail_is xs a h = take_all (length xs - a) (drop a xs) (simp length-drop (omega arith))

-- what a lent tail leaves in the whole
pub tail_back : (xs ys : List ℕ) (a : ℕ) → a ≤ length xs → take a xs ++ (ys ++ drop (length xs - a) (drop a xs)) ≡ take a xs ++ ys
tail_back xs ys a h = rw (drop_of_length-le (drop a xs) {i = length xs - a} (simp length-drop (omega arith)), append-nil)

module _ (xs : List ℕ) (a : ℕ) (bs : List ℕ) (h : a ≤ length xs) where
  patched_of_tail : take a xs ++ patched (drop a xs) 0 bs ≡ patched xs a bs
  unfolding patched
  patched_of_tail =
      let z : 0 + length bs ≡ length bs = omega arith in
      simp (z, drop-drop)

  rest-length : length (drop a xs) ≡ length xs - a
  rest-length = length-drop a xs

  refusal_of_tail : put_refusal (drop a xs) 0 bs ≡ put_refusal xs a bs
  refusal_of_tail =
      ⊎_elim
      (λ (l : a + length bs ≤ length xs). put-takes (drop a xs) 0 bs (omega (arith, rest-length)) ∙ sym (put-takes xs a bs l))
      (λ (l : length xs < a + length bs). put_refuses (drop a xs) 0 bs (omega (arith, rest-length)) ∙ sym (put_refuses xs a bs l))
      (le_by _ (a + length bs) (length xs) refl)

  buffer_of_tail : take a xs ++ put_buffer (drop a xs) 0 bs ≡ put_buffer xs a bs
  buffer_of_tail =
      ⊎_elim
      (λ (l : a + length bs ≤ length xs).
      ap (λ (y : List ℕ). take a xs ++ y) (put_stores (drop a xs) 0 bs (omega (arith, rest-length)))
      ∙ patched_of_tail ∙ sym (put_stores xs a bs l))
      (λ (l : length xs < a + length bs).
      ap (λ (y : List ℕ). take a xs ++ y) (put_keeps (drop a xs) 0 bs (omega (arith, rest-length)))
      ∙ take-append-drop a xs ∙ sym (put_keeps xs a bs l))
      (le_by _ (a + length bs) (length xs) refl)

  -- as a function has it: the tail lent as a part, and what the callee made of it back in its place
  pub lent : {r : Result ⊤ ℕ} {ys : List ℕ}
      → (r ≡ outcome (put_refusal (take (length xs - a) (drop a xs)) 0 bs)) × (ys ≡ put_buffer (take (length xs - a) (drop a xs)) 0 bs)
      → (r ≡ outcome (put_refusal xs a bs)) × (take a xs ++ (ys ++ drop (length xs - a) (drop a xs)) ≡ put_buffer xs a bs)
  lent {r} {ys} e = (
    e.0 ∙ ap (λ (t : List ℕ). outcome (put_refusal t 0 bs)) (tail_is xs a h) ∙ ap outcome refusal_of_tail,
    tail_back xs ys a h ∙ ap (λ (y : List ℕ). take a xs ++ y) (e.1 ∙ ap (λ (t : List ℕ). put_buffer t 0 bs) (tail_is xs a h)) ∙ buffer_of_tail,
  )

-- bytes put with room for them into a tail that is lent, and the tail back in its place
pub lent-patched : (xs : List ℕ) (a : ℕ) (bs : List ℕ) → a ≤ length xs → {ys : List ℕ} → ys ≡ patched (take (length xs - a) (drop a xs)) 0 bs
    → take a xs ++ (ys ++ drop (length xs - a) (drop a xs)) ≡ patched xs a bs
lent-patched xs a bs h {ys} e =
    tail_back xs ys a h
    ∙ ap (λ (y : List ℕ). take a xs ++ y) (e ∙ ap (λ (t : List ℕ). patched t 0 bs) (tail_is xs a h))
    ∙ patched_of_tail xs a bs h

-- the refused write, as a function has it
pub no_room : (xs : List ℕ) (a : ℕ) (bs : List ℕ) {r : ℕ} → length xs < a + length bs → r ≡ 13 → (Err r ≡ outcome (put_refusal xs a bs)) × (xs ≡ put_buffer xs a bs)
unfolding outcome_with
no_room xs a bs h e = (ap Err e ∙ ap outcome (sym (put_refuses xs a bs h)), sym (put_keeps xs a bs h))

-- one part, and then the rest into the tail: the buffer holds the two in a row
module _ (out out₁ l₁ l₂ : List ℕ) (n : ℕ) (e : length l₁ ≡ n) (room : n + length l₂ ≤ length out) (p : out₁ ≡ patched out 0 l₁) where
  same : length out₁ ≡ length out
  same = ap length p ∙ patched-length out 0 l₁ (omega arith)

  pub tail_length : length (take (length out₁ - n) (drop n out₁)) ≡ length out - n
  tail_length = ap length (tail_is out₁ n (omega (arith, same))) ∙ length-drop n out₁ ∙ ap (λ (k : ℕ). k - n) same

  pub puts_then : {ys : List ℕ} → ys ≡ patched (take (length out₁ - n) (drop n out₁)) 0 l₂ → take n out₁ ++ (ys ++ drop (length out₁ - n) (drop n out₁)) ≡ patched out 0 (l₁ ++ l₂)
  puts_then {ys} q =
      let k : n ≡ 0 + length l₁ = omega arith in
      lent-patched out₁ n l₂ (omega (arith, same)) q
      ∙ ap₂ (λ (o : List ℕ) (i : ℕ). patched o i l₂) p k
      ∙ patched_join out 0 l₁ (omega arith) l₂

-- the first byte stored is a run of one
pub first_stored : (c : ℕ) (out : List ℕ) → 1 ≤ length out → set out 0 c ≡ patched out 0 (c ∷ [])
unfolding patched
first_stored c [] h = absurd (omega (arith, h))
first_stored c (x ∷ out) h = refl
