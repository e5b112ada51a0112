-- Bytes copied one by one, and moved through a local and from both ends. Assumes nothing.
use mathlib.Core.Path.{◌≡◌, refl, ap, ◌∙◌}
use mathlib.Core.List.{List, [], ◌∷◌, ◌++◌}
use Prim.Native.Nat.{ℕ, zero, suc, ◌+◌, ◌-◌, ◌≤◌, ◌<◌}
use native.Mathlib.Nat.{le_of_suc-le-suc, not-suc-le-zero}
use native.Mathlib.Numerals.{add-one}
use native.Mathlib.Omega.{arith}
use lib.ListN.{length, take, drop, get_or, set}
use lib.Seq.{take_all, take_at, length-take-le}
use Rattle.numbers.specs.Numbers.{patched}
use Rattle.numbers.specs.NumberLaws.{patched-length}
use Rattle.numbers.proofs.Tail.{tail_is, lent-patched}
use Rattle.block.specs.Ends.{both_ends_put}

copy_suc : (s d : List ℕ) (i : ℕ) → i < length s → i < length d → set (take i s ++ drop i d) i (get_or s i 0) ≡ take (suc i) s ++ drop (suc i) d
copy_suc [] d i hs hd = absurd (not-suc-le-zero hs)
copy_suc (x ∷ s) [] i hs hd = absurd (not-suc-le-zero hd)
copy_suc (x ∷ s) (y ∷ d) zero hs hd = refl
copy_suc (x ∷ s) (y ∷ d) (suc i) hs hd = ap (λ (l : List ℕ). x ∷ l) (copy_suc s d i (le_of_suc-le-suc hs) (le_of_suc-le-suc hd))

-- one byte more is copied
pub copy_more : (s d : List ℕ) (i : ℕ) → i < length s → i < length d → set (take i s ++ drop i d) i (get_or s i 0) ≡ take (i + 1) s ++ drop (i + 1) d
copy_more s d i hs hd = rw add-one (copy_suc s d i hs hd)

-- all are copied
pub copy_all : (s d : List ℕ) (i : ℕ) → length s ≤ i → i ≤ length s → take i s ++ drop i d ≡ patched d 0 s
unfolding patched
copy_all s d i h l =
    let e : i ≡ length s = omega arith in
    let z : 0 + length s ≡ length s = omega arith in
    rw (take_all i s h, e, z)

-- the front of a local that bytes were copied into
pub held-front : (s d l : List ℕ) → l ≡ patched d 0 s → take (length s) l ≡ s
unfolding patched
held-front s d l e = ap (take (length s)) e ∙ take_at s _ (length s) refl

-- the first k bytes moved, and then the last k into the tail that is theirs
pub ends-moved : (t b : List ℕ) (k : ℕ) (t₁ : List ℕ) → k ≤ length b → length b ≤ k + k → length b ≤ length t → t₁ ≡ patched t 0 (take (k - 0) b)
    → {ys : List ℕ} → ys ≡ patched (take (length t₁ - (length b - k)) (drop (length b - k) t₁)) 0 (take (length b - (length b - k)) (drop (length b - k) b))
    → take (length b - k) t₁ ++ (ys ++ drop (length t₁ - (length b - k)) (drop (length b - k) t₁)) ≡ patched t 0 b
ends-moved t b k t₁ low high room p {ys} q =
    let a = length b - k in
    let z : k - 0 ≡ k = omega arith in
    let f : t₁ ≡ patched t 0 (take k b) = p ∙ ap (λ (i : ℕ). patched t 0 (take i b)) z in
    let l : length (take k b) ≡ k = length-take-le k b low in
    let same : length t₁ ≡ length t = ap length f ∙ patched-length t 0 (take k b) (omega (arith, l)) in
    lent-patched t₁ a (drop a b) (omega (arith, same)) (q ∙ ap (patched (take (length t₁ - a) (drop a t₁)) 0) (tail_is b a (omega arith)))
    ∙ ap (λ (x : List ℕ). patched x a (drop a b)) f
    ∙ both_ends_put t b k low high
