-- Few bytes moved without a loop over them: the first k and the last k, which overlap or meet, are all of them, over any k. Assumes nothing.
use Rattle.std.specs.Prelude.{◌≡◌, refl, ℕ, ◌+◌, ◌-◌, ◌≤◌, get_or, set}
use Rattle.std.proofs.Math.Path.{sym, ap, ap₂}
use Rattle.std.proofs.Common.{◌∙◌, zero-add, arith, take-append-drop, length-take-le, take-take, drop-drop}
use mathlib.Core.List.{List, [], ◌∷◌, ◌++◌, append_assoc}
use Rattle.std.proofs.Math.ListN.{length, take, drop, length-drop}
use Rattle.std.proofs.lemmas.List.{take-append-le}
use Rattle.std.proofs.Math.Seq.{drop-append-add}
use Rattle.numbers.specs.Numbers.{patched}

module _ (t b : List ℕ) (k : ℕ) (low : k ≤ length b) (high : length b ≤ k + k) where
  -- where the last k begin
  abbrev last : ℕ
  last = length b - k

  front_long : length (take k b) ≡ k
  front_long = length-take-le k b low

  -- before the last k stand the first bytes
  before : take last (take k b ++ drop k t) ≡ take last b
  before = take-append-le last (take k b) (drop k t) (omega (arith, front_long, low, high)) ∙ take-take last k b (omega (arith, low, high))

  -- after them stands what stood there
  after : drop (length b) (take k b ++ drop k t) ≡ drop (length b) t
  after =
      let e : length b ≡ length (take k b) + last = omega (arith, front_long, low) in
      let f : k + last ≡ length b = omega (arith, low) in
      ap (λ (i : ℕ). drop i (take k b ++ drop k t)) e
      ∙ drop-append-add (take k b) (drop k t) last
      ∙ drop-drop last k t
      ∙ ap (λ (i : ℕ). drop i t) f

  -- the first k bytes put, and then the last k
  pub both_ends_put : patched (patched t 0 (take k b)) (length b - k) (drop (length b - k) b) ≡ patched t 0 b
  unfolding patched
  both_ends_put =
      let front : take k b ++ drop (0 + length (take k b)) t ≡ take k b ++ drop k t = ap (λ (i : ℕ). take k b ++ drop i t) (zero-add (length (take k b)) ∙ front_long) in
      let end : last + length (drop last b) ≡ length b = omega (arith, length-drop last b, low) in
      ap₂ (λ (i : ℕ) (x : List ℕ). take last x ++ (drop last b ++ drop i x)) end front
      ∙ ap₂ (λ (x y : List ℕ). x ++ (drop last b ++ y)) before after
      ∙ sym (append_assoc (take last b) (drop last b) (drop (length b) t))
      ∙ ap₂ (λ (x : List ℕ) (i : ℕ). x ++ drop i t) (take-append-drop last b) (sym (zero-add (length b)))

-- one byte put
pub one-put : (t b : List ℕ) → length b ≡ 1 → 1 ≤ length t → set t 0 (get_or b 0 0) ≡ patched t 0 b
unfolding patched
one-put t [] e h = absurd (omega (arith, e))
one-put [] (x ∷ b) e h = absurd (omega (arith, h))
one-put (y ∷ t) (x ∷ []) e h = refl
one-put (y ∷ t) (x ∷ z ∷ b) e h = absurd (omega (arith, e))

-- none put
pub none-put : (t b : List ℕ) → length b ≤ 0 → t ≡ patched t 0 b
unfolding patched
none-put t [] h = refl
none-put t (x ∷ b) h = absurd (omega (arith, h))
